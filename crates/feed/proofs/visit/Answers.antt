use Rattle.feed.proofs.Changes.{changes, visit_room, visit_told}
use Rattle.feed.proofs.visit.Goals as goal

pub send_changes-requires : goal.send_changes-requires
send_changes-requires c =
    (c.requires.0, c.requires.1, visit_room c.args.m.now c.args.s _ c.is_told.ensures c.if-is_told.true c.args.i _ c.requires.2)

pub returns-then-is_told : goal.returns-then-is_told
returns-then-is_told c =
    visit_told c.args.m.now c.args.s _ c.is_told.ensures c.if-is_told.true c.args.out.now c.args.i _ c.send_changes.ensures

pub returns : goal.returns
returns c = search changes
