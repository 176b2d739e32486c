use Rattle.std.proofs.Common.{◌≡◌, ℕ, ◌<◌}
use Rattle.stored.specs.Rows.{word_at}
use Rattle.stored.proofs.first_difference.Given as goal

abbrev pub invariant-loop-i : goal.invariant-loop-i
invariant-loop-i l = (k : ℕ) → k < l.i → word_at l.want k ≡ word_at l.got k
