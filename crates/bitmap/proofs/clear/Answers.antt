use mathlib.Core.Path.{◌≡◌, refl}
use Prim.Native.Nat.{◌-◌, ◌/◌}
use native.Mathlib.Omega.{arith}
use borrow.Author.Rules.{rules}
use Rattle.bitmap.proofs.Laws.{emptied_none, emptied_more, laws}
use Rattle.bitmap.proofs.clear.Goals as goal

pub loop-g-init : goal.loop-g-init
loop-g-init c =
    emptied_none _ c.requires.0

pub set-requires : goal.set-requires
set-requires c = search laws

pub loop-g-preserved : goal.loop-g-preserved
loop-g-preserved c =
    emptied_more _ _ c.loop-g.g (search laws) c.loop-g.invariant c.set.ensures

pub returns : goal.returns
returns c =
    let e : c.loop-g.g ≡ c.args.n / 64 = omega arith in
    rw e at c.loop-g.invariant
