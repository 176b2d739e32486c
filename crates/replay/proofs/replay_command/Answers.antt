use Rattle.std.proofs.lemmas.Result.{err_from_is_err_and}
use Rattle.replay.proofs.Taking.{not_taken, taken_done, taking}
use Rattle.replay.proofs.replay_command.Goals as goal

pub returns-in_err-judge : goal.returns-in_err-judge
returns-in_err-judge c =
    let p = err_from_is_err_and c.from_residual.result c.from_residual.ensures.1 in
    rw (p.1, p.2) (not_taken c.args.m.now c.requires c.args.n c.ranges.n.fits c.args.k _ c.terms_of-t.ensures _ c.in_err-judge.ensures)

pub apply-requires : goal.apply-requires
apply-requires c = search taking

pub returns : goal.returns
returns c =
    taken_done c.args.m.now c.requires c.args.n c.ranges.n.fits c.args.k _ c.terms_of-t.ensures c.in_ok-judge.ensures c.apply.ensures
