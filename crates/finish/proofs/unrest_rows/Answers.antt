use mathlib.Core.Path.{◌≡◌}
use native.Mathlib.Omega.{arith}
use Rattle.finish.proofs.Cleared.{none_unrested, more_unrested}
use Rattle.finish.proofs.unrest_rows.Goals as goal

pub loop-i-init : goal.loop-i-init
loop-i-init c =
    none_unrested _ c.requires.0

pub loop-i-preserved : goal.loop-i-preserved
loop-i-preserved c =
    more_unrested _ _ _ c.loop-i.i (omega arith) c.loop-i.invariant c.unrest.ensures

pub returns : goal.returns
returns c =
    let e : c.loop-i.i ≡ c.args.n = omega arith in
    rw e at c.loop-i.invariant
