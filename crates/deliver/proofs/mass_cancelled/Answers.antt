use Rattle.std.proofs.lemmas.Result.{err_from_is_err_and}
use Rattle.deliver.proofs.Masses.{mass_refused, bare_flying, bare_room, told_fits, mass_done}
use Rattle.deliver.proofs.mass_cancelled.Goals as goal

pub returns-in_err-judge : goal.returns-in_err-judge
returns-in_err-judge c =
    let p = err_from_is_err_and c.from_residual.result c.from_residual.ensures.1 in
    rw (p.1, p.2) (mass_refused c.args.m.now c.args.out.now c.args.n c.args.owner c.args.count c.requires _ c.is_owner-below.ensures _ c.listener-t.ensures _ c.rows-k.ensures.0 _ c.room.ensures _ c.in_err-judge.ensures)

pub land-requires : goal.land-requires
land-requires c =
    (c.requires.state, bare_flying c.args.m.now c.args.out.now c.args.n c.is_owner-below.result c.rows-k.result c.room.result c.room.ensures c.in_ok-judge.ensures)

pub report-requires : goal.report-requires
report-requires c =
    (c.land.ensures.state, c.listener-t.ensures.slot, told_fits c.rows-k.ensures.0 (bare_room c.args.m.now c.args.out.now c.args.n c.is_owner-below.result c.rows-k.result c.room.result c.room.ensures c.in_ok-judge.ensures))

pub returns : goal.returns
returns c =
    mass_done c.args.m.now c.args.out.now c.args.n c.args.owner c.args.count c.requires _ c.is_owner-below.ensures _ c.listener-t.ensures _ c.rows-k.ensures.0 _ c.room.ensures c.in_ok-judge.ensures c.land.ensures c.report.ensures
