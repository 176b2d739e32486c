use mathlib.Core.Path.{◌≡◌, refl, ◌∙◌}
use Prim.Native.Nat.{◌*◌}
use native.Mathlib.Omega.{arith}
use borrow.Author.Rules.{rules}
use Rattle.le.proofs.Laws.{length_put}
use Rattle.store.specs.Layout.{cells}
use Rattle.store.proofs.Zeros.{cleared_none, cleared_one, cleared_all}
use Rattle.store.proofs.clear.Goals as goal

pub loop-i-init : goal.loop-i-init
loop-i-init c =
    (refl, cleared_none _ (search rules))

pub loop-i-preserved : goal.loop-i-preserved
loop-i-preserved c =
    let e = c.put_u64.ensures in rw e (length_put 8 c.loop-i.m (8 * c.loop-i.i) 0 ∙ c.loop-i.invariant.0, cleared_one c.loop-i.m c.loop-i.i (omega arith) c.loop-i.invariant.1)

pub returns : goal.returns
returns c =
    let e : c.loop-i.i ≡ cells = omega arith in
    cleared_all (rw e at c.loop-i.invariant.1)
