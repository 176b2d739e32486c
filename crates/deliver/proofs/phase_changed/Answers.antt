use Rattle.std.proofs.lemmas.Result.{err_from_is_err_and}
use mathlib.Core.Bool.{true}
use Rattle.deliver.proofs.Masses.{bare_flying, bare_room}
use Rattle.deliver.proofs.Phases.{phase_refused, phase_room, phase_done}
use Rattle.deliver.proofs.phase_changed.Goals as goal

pub returns-in_err-judge : goal.returns-in_err-judge
returns-in_err-judge c =
    let p = err_from_is_err_and c.from_residual.result c.from_residual.ensures.1 in
    rw (p.1, p.2) (phase_refused c.args.m.now c.args.out.now c.args.n c.args.phase c.requires _ c.count-k.ensures _ c.room.ensures _ c.in_err-judge.ensures)

pub land-requires : goal.land-requires
land-requires c =
    (c.requires.state, bare_flying c.args.m.now c.args.out.now c.args.n true c.count-k.result c.room.result c.room.ensures c.in_ok-judge.ensures)

pub tell_all-requires : goal.tell_all-requires
tell_all-requires c =
    (c.land.ensures.state, phase_room c.args.m.now c.args.out.now c.args.n c.args.phase c.requires c.count-k.result c.count-k.ensures c.room.result c.room.ensures c.in_ok-judge.ensures c.land.ensures (bare_room c.args.m.now c.args.out.now c.args.n true c.count-k.result c.room.result c.room.ensures c.in_ok-judge.ensures))

pub returns : goal.returns
returns c =
    phase_done c.args.m.now c.args.out.now c.args.n c.args.phase c.requires _ c.count-k.ensures _ c.room.ensures c.in_ok-judge.ensures c.land.ensures _ c.tell_all.ensures
