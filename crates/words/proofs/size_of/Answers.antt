use Prim.Native.Nat.{◌+◌, ◌-◌}
use native.Mathlib.Omega.{arith}
use Rattle.words.proofs.Laws.{high_neg, laws}
use Rattle.words.proofs.size_of.Goals as goal

pub returns-then-w-lt-HALF : goal.returns-then-w-lt-HALF
returns-then-w-lt-HALF c = search laws

pub returns-else-w-lt-HALF : goal.returns-else-w-lt-HALF
returns-else-w-lt-HALF c = let w = c.args.w in high_neg w (18446744073709551615 - w + 1) (omega arith) (omega arith) (omega arith)
