use Rattle.table.proofs.Moves.{step, down_by, closed}
use native.Mathlib.Omega.{arith}
use Rattle.table.proofs.close_at.Goals as goal

pub overflow_mul-to : goal.overflow_mul-to
overflow_mul-to c = omega (arith, step c.args.stride c.requires.1)

pub overflow_add-to : goal.overflow_add-to
overflow_add-to c = omega (arith, step c.args.stride c.requires.1)

pub overflow_add-from : goal.overflow_add-from
overflow_add-from c = omega (arith, step c.args.stride c.requires.1)

pub overflow_sub-end : goal.overflow_sub-end
overflow_sub-end c =
    omega (arith, step c.args.stride c.requires.1)

pub down_32-requires : goal.down_32-requires
down_32-requires c =
    omega (arith, step c.args.stride c.requires.1, c.if-stride-eq32.true)

pub returns-then-stride-eq32 : goal.returns-then-stride-eq32
returns-then-stride-eq32 c =
    closed _ _ _ _ c.requires.1 (down_by _ _ _ c.if-stride-eq32.true c.down_32.ensures)

pub overflow_sub-end-2 : goal.overflow_sub-end-2
overflow_sub-end-2 c =
    omega (arith, step c.args.stride c.requires.1)

pub move_down-requires : goal.move_down-requires
move_down-requires c =
    omega (arith, step c.args.stride c.requires.1)

pub returns : goal.returns
returns c =
    closed _ _ _ _ c.requires.1 c.move_down.ensures
