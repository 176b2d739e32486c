use Rattle.login.proofs.Entered.{laws}
use Rattle.login.proofs.Told.{row_room}
use Rattle.login.proofs.reports.post_row.Goals as goal

pub send-requires : goal.send-requires
send-requires c =
    row_room c.args.m.now c.args.s c.args.a c.args.i c.args.j _ _ c.word_at-last.ensures c.word_at-delivered.ensures _ c.is_told.ensures _ c.if-is_told.true c.requires.2

pub returns-then-is_told : goal.returns-then-is_told
returns-then-is_told c = search laws

pub returns : goal.returns
returns c = search laws
