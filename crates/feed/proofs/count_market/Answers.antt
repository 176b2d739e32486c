use mathlib.Core.Path.{◌≡◌, ap, ◌∙◌}
use native.Mathlib.Omega.{arith}
use lib.ListN.{length}
use Rattle.gateway.specs.Limits.{session_slots}
use Rattle.outcome.proofs.Steps.{steps_first, steps_count}
use Rattle.feed.specs.Feed.{changes_step}
use Rattle.feed.proofs.Changes.{sessions_each}
use Rattle.feed.proofs.count_market.Goals as goal

pub loop-s-init : goal.loop-s-init
loop-s-init c = (steps_first changes_step _, omega arith)

pub loop-s-preserved : goal.loop-s-preserved
loop-s-preserved c =
    let r = c.change_rows-n.ensures in
    (steps_count changes_step _ c.loop-s.s c.loop-s.n _ c.loop-s.invariant.0 r.0, omega (arith, c.loop-s.invariant.1, r.1))

pub returns : goal.returns
returns c =
    let i = c.loop-s.invariant in
    let e : c.loop-s.s ≡ session_slots = omega (arith, c.loop-s.auto.s-end, c.loop-s-test.false) in
    (i.0 ∙ ap length (sessions_each c.args.m.now _ e), omega (arith, c.loop-s.auto.s-end, i.1))
