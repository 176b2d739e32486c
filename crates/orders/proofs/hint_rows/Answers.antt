use mathlib.Core.Path.{◌≡◌, refl}
use Prim.Native.Nat.{◌-◌}
use native.Mathlib.Omega.{arith}
use borrow.Author.Rules.{rules}
use Rattle.orders.proofs.Laws.{hints_none, hints_more}
use Rattle.orders.proofs.hint_rows.Goals as goal

pub loop-i-init : goal.loop-i-init
loop-i-init c =
    hints_none _ c.requires.0

pub loop-i-preserved : goal.loop-i-preserved
loop-i-preserved c =
    hints_more _ _ _ c.loop-i.i (omega arith) c.loop-i.invariant c.hint.ensures

pub returns : goal.returns
returns c =
    let e : c.loop-i.i ≡ c.args.n = omega arith in
    rw e at c.loop-i.invariant
