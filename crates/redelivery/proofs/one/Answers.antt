use Rattle.std.proofs.lemmas.Result.{err_from_is_err_and}
use Rattle.redelivery.proofs.Orders.{one_refused, one_done}
use Rattle.redelivery.proofs.one.Goals as goal

pub returns-in_err-judge : goal.returns-in_err-judge
returns-in_err-judge c =
    λ e s.
    let p = err_from_is_err_and c.from_residual.result c.from_residual.ensures.1 in
    rw (p.1, p.2) (one_refused c.args.m.now c.requires c.args.n c.args.id c.args.x _ c.weigh_move-h.ensures _ c.fits-fits.ensures e s _ c.in_err-judge.ensures)

pub returns : goal.returns
returns c =
    λ e s. one_done c.args.m.now c.requires c.args.n c.args.id c.args.x _ c.weigh_move-h.ensures _ c.fits-fits.ensures e s c.in_ok-judge.ensures c.apply_one.ensures
