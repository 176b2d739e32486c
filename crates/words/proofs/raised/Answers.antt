use native.Mathlib.Omega.{arith}
use Rattle.words.proofs.Int.{low_is, high_is}
use Rattle.words.proofs.raised.Goals as goal

pub returns-then-w-lt-HALF : goal.returns-then-w-lt-HALF
returns-then-w-lt-HALF c = low_is _ _ _ (omega arith) (omega arith)

pub returns-else-w-lt-HALF : goal.returns-else-w-lt-HALF
returns-else-w-lt-HALF c = high_is _ _ _ (omega arith) (omega arith) (omega arith)
