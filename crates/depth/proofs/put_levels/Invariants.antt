use Rattle.depth.proofs.Laws.{Put}
use Rattle.depth.proofs.put_levels.Given as goal

abbrev pub invariant-loop-i : goal.invariant-loop-i
invariant-loop-i l = Put l.row l.i l.initial.out l.out
