use Rattle.std.proofs.lemmas.Result.{err_from_is_err_and}
use Rattle.acknowledgements.proofs.Stills.{quiet_refused, quiet_done}
use Rattle.acknowledgements.proofs.quiet.Goals as goal

pub returns-in_err-judge_quiet : goal.returns-in_err-judge_quiet
returns-in_err-judge_quiet c =
    λ e s.
    let p = err_from_is_err_and c.from_residual.result c.from_residual.ensures.1 in
    rw (p.1, p.2) (quiet_refused c.args.m.now c.args.out.now c.args.n c.args.id c.args.kind e s c.requires _ c.owner-t.ensures _ c.room.ensures _ c.in_err-judge_quiet.ensures)

pub returns : goal.returns
returns c =
    λ x y. quiet_done c.args.m.now c.args.out.now c.args.n c.args.id _ x y c.requires _ c.owner-t.ensures _ c.room.ensures c.in_ok-judge_quiet.ensures _ c.rows-k.ensures.0 c.land.ensures c.report.ensures
