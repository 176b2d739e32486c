use Rattle.table.proofs.Packed.{compacted_none, compacted_dead, compacted_live}
use Rattle.table.proofs.Moves.{next, step}
use native.Mathlib.Omega.{arith}
use Prim.Native.Nat.{◌-◌, ◌<◌}
use mathlib.Core.Path.{◌≡◌}
use Rattle.table.proofs.compact.Goals as goal
use Rattle.table.proofs.compact.Goals.{then-mark_at-ne0, else-mark_at-ne0}

pub loop-i-init : goal.loop-i-init
loop-i-init c =
    compacted_none _ _ _ _

pub mark_at-requires : goal.mark_at-requires
mark_at-requires c =
    omega (arith, step c.args.stride c.loop-i-test.true)

pub move_row-requires : goal.move_row-requires
move_row-requires c =
    omega (arith, step c.args.stride c.loop-i-test.true, next c.args.stride c.loop-i.i)

pub loop-i-preserved : goal.loop-i-preserved
loop-i-preserved c =
    elim c.if-mark_at-ne0.branch [
      | then-mark_at-ne0 w ↦ let h : 0 < c.mark_at.result = omega arith in rw (w.m-is, w.w-is) (compacted_live c.loop-i.invariant (rw c.mark_at.ensures at h) w.move_row.ensures)
      | else-mark_at-ne0 w ↦ rw (w.m-is, w.w-is) (compacted_dead c.loop-i.invariant (rw c.mark_at.ensures at w.if-mark_at-ne0.false))
    ]

pub returns : goal.returns
returns c =
    let e : c.loop-i.i ≡ c.args.n = omega arith in
    rw e at c.loop-i.invariant
