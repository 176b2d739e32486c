use Rattle.std.proofs.lemmas.Result.{err_from_is_err_and}
use mathlib.Core.Path.{refl}
use Rattle.trades.proofs.Calling.{trade_refused, can_deal, mail_room, trade_done}
use Rattle.trades.proofs.decide.Goals as goal

pub returns-in_err-judge : goal.returns-in_err-judge
returns-in_err-judge c =
    let p = err_from_is_err_and c.from_residual.result c.from_residual.ensures.1 in
    rw (p.1, p.2) (trade_refused c.args.m.now c.args.out.now c.args.n c.args.d c.requires.0 c.requires.1 _ _ c.requires.2 c.requires.3 _ c.room.ensures _ c.in_err-judge.ensures)

pub apply-requires : goal.apply-requires
apply-requires c =
    (c.requires.0.state, c.requires.2, c.requires.3, can_deal c.args.m.now c.args.out.now c.args.n c.args.d c.requires.0 c.requires.1 _ _ c.requires.2 c.requires.3 _ c.room.ensures c.in_ok-judge.ensures)

pub tell-count-requires : goal.tell-count-requires
tell-count-requires c =
    (c.apply.ensures.state, c.requires.2.tells.slot, c.requires.3.tells.slot, mail_room c.args.m.now c.args.out.now c.args.n c.args.d c.requires.0 c.requires.1 _ _ c.requires.2 c.requires.3 _ c.room.ensures c.in_ok-judge.ensures)

pub returns : goal.returns
returns c =
    trade_done c.args.m.now c.args.out.now c.args.n c.args.d c.requires.0 c.requires.1 _ _ c.requires.2 c.requires.3 _ c.room.ensures c.in_ok-judge.ensures _ _ refl c.apply.ensures c.tell-count.ensures
