use Rattle.std.proofs.lemmas.Result.{err_from_is_err_and}
use mathlib.Core.Path.{refl}
use Rattle.redelivery.proofs.Orders.{trade_done, trade_refused}
use Rattle.redelivery.proofs.deal.Goals as goal

pub returns-in_err-judge_trade : goal.returns-in_err-judge_trade
returns-in_err-judge_trade c =
    let p = err_from_is_err_and c.from_residual.result c.from_residual.ensures.1 in
    rw (p.1, p.2) (trade_refused c.args.m.now c.requires.0 c.args.n c.args.d c.requires.1 _ _ c.weigh_move-taker.ensures c.weigh_move-maker.ensures _ c.in_err-judge_trade.ensures)

pub returns : goal.returns
returns c =
    trade_done c.args.m.now c.requires.0 c.args.n c.args.d c.requires.1 _ _ c.weigh_move-taker.ensures c.weigh_move-maker.ensures _ refl c.in_ok-judge_trade.ensures c.apply_trade.ensures
