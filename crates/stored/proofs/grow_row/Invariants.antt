use Rattle.std.proofs.Common.{◌≡◌}
use Rattle.stored.specs.Rows.{grown}
use Rattle.stored.proofs.grow_row.Given as goal

abbrev pub invariant-loop-i : goal.invariant-loop-i
invariant-loop-i l = l.row ≡ grown l.initial.row l.words l.i
