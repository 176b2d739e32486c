use mathlib.Core.Path.{◌≡◌}
use lib.ListN.{length}
use Rattle.store.proofs.Zeros.{Cleared}
use Rattle.store.proofs.clear.Given as goal

-- the first i cells are 0
abbrev pub invariant-loop-i : goal.invariant-loop-i
invariant-loop-i l = (length l.m ≡ length l.initial.m) × Cleared l.m l.i
