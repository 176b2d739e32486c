use Rattle.table.proofs.Moves.{mono, step}
use Rattle.table.proofs.Search.{row_in, rows_few, counted_none, counted_more, counted_stop}
use native.Mathlib.Omega.{arith}
use Prim.Native.Nat.{◌+◌, ◌*◌, ◌-◌, ◌≤◌, ◌<◌}
use mathlib.Core.Path.{◌≡◌}
use Rattle.table.proofs.count.Goals as goal
use Rattle.table.proofs.count.Goals.{then-key_at-key, else-key_at-key}

pub loop-i-init : goal.loop-i-init
loop-i-init c =
    counted_none _ _ _

pub overflow_mul-at : goal.overflow_mul-at
overflow_mul-at c =
    let h : c.loop-i.i < c.args.many = omega arith in
    omega (arith, step c.args.w h, rows_few c.requires.0.room)

pub overflow_add-at : goal.overflow_add-at
overflow_add-at c =
    let h : c.loop-i.i < c.args.many = omega arith in
    omega (arith, step c.args.w h, rows_few c.requires.0.room)

pub overflow_add-at-in-loop-i : goal.overflow_add-at-in-loop-i
overflow_add-at-in-loop-i c =
    let h : c.loop-i.i < c.args.many = omega arith in
    omega (arith, step c.args.w h, rows_few c.requires.0.room)

pub key_at-requires : goal.key_at-requires
key_at-requires c =
    let h : c.loop-i.i < c.args.many = omega arith in
    let r = c.requires.0.room in
    omega (arith, row_in r (c.args.lo + c.args.w * c.loop-i.i + (c.args.w - 1)) (omega (arith, step c.args.w h)), r.wide)

pub loop-i-preserved : goal.loop-i-preserved
loop-i-preserved c =
    let h : c.loop-i.i + 1 ≤ c.args.many = omega arith in
    elim c.if-key_at-key.branch [
      | then-key_at-key w ↦
          rw w.c-is
          (counted_more c.args.key c.args.lo c.args.w c.loop-i.i c.loop-i.c c.requires.0.asc c.requires.1 (omega (arith, mono c.args.w h)) c.loop-i.invariant (rw c.key_at.ensures at w.if-key_at-key.true))
      | else-key_at-key w ↦
          rw w.c-is (counted_stop c.args.key c.args.lo c.args.w c.loop-i.i c.loop-i.c c.loop-i.invariant (rw c.key_at.ensures at w.if-key_at-key.false))
    ]

pub returns : goal.returns
returns c =
    let l = c.loop-i in
    let e : l.i ≡ c.args.many = omega arith in
    rw e at l.invariant
