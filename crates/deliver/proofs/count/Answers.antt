use mathlib.Core.Path.{◌≡◌, ap, ◌∙◌}
use native.Mathlib.Omega.{arith}
use lib.ListN.{length}
use Rattle.gateway.specs.Limits.{session_slots}
use Rattle.outcome.proofs.Steps.{steps_first, steps_count}
use Rattle.deliver.specs.Delivering.{phase_step}
use Rattle.deliver.proofs.Phases.{phase_each}
use Rattle.deliver.proofs.count.Goals as goal

pub loop-s-init : goal.loop-s-init
loop-s-init c =
    (steps_first (phase_step _ _) _, omega arith)

pub loop-s-preserved : goal.loop-s-preserved
loop-s-preserved c =
    let r = c.rows-k.ensures in
    (steps_count (phase_step _ _) _ c.loop-s.s c.loop-s.k _ c.loop-s.invariant.0 r.0, omega (arith, c.loop-s.invariant.1, r.1))

pub returns : goal.returns
returns c =
    let e : c.loop-s.s ≡ session_slots = omega (arith, c.loop-s.auto, c.loop-s-test.false) in
    c.loop-s.invariant.0 ∙ ap length (phase_each c.args.n c.args.phase c.args.m.now _ e)
