use mathlib.Core.Path.{◌≡◌, refl}
use Prim.Native.Nat.{◌-◌}
use native.Mathlib.Omega.{arith}
use borrow.Author.Rules.{rules}
use Rattle.pending.proofs.Chain.{slot_at_small, forget_none, forget_more}
use Rattle.pending.proofs.changed.forget_tops.Goals as goal

pub loop-i-init : goal.loop-i-init
loop-i-init c =
    forget_none _ c.requires.0

pub set-requires : goal.set-requires
set-requires c = search (slot_at_small, rules)

pub loop-i-preserved : goal.loop-i-preserved
loop-i-preserved c =
    forget_more _ c.loop-i.i _ _ _ (omega arith) c.loop-i.invariant c.slot_at-k.ensures c.set.ensures

pub returns : goal.returns
returns c =
    let e : c.loop-i.i ≡ c.args.n = omega arith in
    rw e at c.loop-i.invariant
