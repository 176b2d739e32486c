use Rattle.table.proofs.Moves.{next, step, moved_still}
use native.Mathlib.Omega.{arith}
use mathlib.Core.Path.{◌≡◌}
use Rattle.table.proofs.move_row.Goals as goal

pub overflow_mul-stride-then-w-i : goal.overflow_mul-stride-then-w-i
overflow_mul-stride-then-w-i c =
    omega (arith, step c.args.stride c.if-w-i.true, next c.args.stride c.args.i)

pub overflow_add-base-then-w-i : goal.overflow_add-base-then-w-i
overflow_add-base-then-w-i c =
    omega (arith, step c.args.stride c.if-w-i.true, next c.args.stride c.args.i)

pub move_bytes-requires : goal.move_bytes-requires
move_bytes-requires c =
    omega (arith, step c.args.stride c.if-w-i.true, next c.args.stride c.args.i)

pub returns-else-w-i : goal.returns-else-w-i
returns-else-w-i c =
    let a = c.args in
    let e : a.w ≡ a.i = omega arith in
    rw e (moved_still a.m.now _ _)
