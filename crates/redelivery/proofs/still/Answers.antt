use Rattle.std.proofs.lemmas.Result.{err_from_is_err_and}
use Rattle.redelivery.proofs.Calling.{still_refused, still_done}
use Rattle.redelivery.proofs.still.Goals as goal

pub returns-in_err-judge : goal.returns-in_err-judge
returns-in_err-judge c =
    λ e s.
    let p = err_from_is_err_and c.from_residual.result c.from_residual.ensures.1 in
    rw (p.1, p.2) (still_refused c.args.m.now c.requires c.args.n c.args.below c.args.numbers e s _ c.in_err-judge.ensures)

pub returns : goal.returns
returns c =
    λ e s. still_done c.args.m.now c.requires c.args.n c.args.below c.args.numbers e s c.in_ok-judge.ensures c.land.ensures
