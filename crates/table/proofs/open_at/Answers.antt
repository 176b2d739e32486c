use Rattle.table.proofs.Moves.{mono, up_by, opened}
use native.Mathlib.Omega.{arith}
use Rattle.table.proofs.open_at.Goals as goal

pub overflow_mul-from : goal.overflow_mul-from
overflow_mul-from c = omega (arith, mono c.args.stride c.requires.1)

pub overflow_add-from : goal.overflow_add-from
overflow_add-from c = omega (arith, mono c.args.stride c.requires.1)

pub overflow_sub-end : goal.overflow_sub-end
overflow_sub-end c =
    omega (arith, mono c.args.stride c.requires.1)

pub up_32-requires : goal.up_32-requires
up_32-requires c =
    omega (arith, mono c.args.stride c.requires.1, c.if-stride-eq32.true)

pub returns-then-stride-eq32 : goal.returns-then-stride-eq32
returns-then-stride-eq32 c =
    opened _ _ _ _ c.requires.1 (up_by _ _ _ c.if-stride-eq32.true c.up_32.ensures)

pub overflow_sub-end-2 : goal.overflow_sub-end-2
overflow_sub-end-2 c =
    omega (arith, mono c.args.stride c.requires.1)

pub move_up-requires : goal.move_up-requires
move_up-requires c =
    omega (arith, mono c.args.stride c.requires.1)

pub returns : goal.returns
returns c =
    opened _ _ _ _ c.requires.1 c.move_up.ensures
