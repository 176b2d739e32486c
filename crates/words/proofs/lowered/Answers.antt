use native.Mathlib.Omega.{arith}
use Rattle.words.proofs.Int.{low_is, high_is}
use Rattle.words.proofs.lowered.Goals as goal

pub returns-then-u-lt-HALF : goal.returns-then-u-lt-HALF
returns-then-u-lt-HALF c = high_is _ _ _ (omega arith) (omega arith) (omega arith)

pub returns-else-u-lt-HALF : goal.returns-else-u-lt-HALF
returns-else-u-lt-HALF c = low_is _ _ _ (omega arith) (omega arith)
