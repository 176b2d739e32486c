use Rattle.std.proofs.Common.{◌≡◌}
use Rattle.stored.specs.Rows.{moved}
use Rattle.stored.proofs.tail.Given as goal

abbrev pub invariant-loop-i : goal.invariant-loop-i
invariant-loop-i l = l.to ≡ moved l.row l.from l.i
