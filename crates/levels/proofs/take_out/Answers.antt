use native.Mathlib.Omega.{arith}
use Rattle.levels.proofs.Laws.{some_level, laws}
use Rattle.levels.proofs.take_out.Goals as goal

pub overflow_sub-k : goal.overflow_sub-k
overflow_sub-k c =
    omega (arith, c.size-k.ensures, some_level _ c.requires.0 _ c.requires.1 c.requires.2)

pub returns : goal.returns
returns c = search laws
