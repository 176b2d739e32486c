use mathlib.Core.Path.{refl}
use native.Mathlib.Omega.{arith}
use Rattle.words.proofs.Fit.{lies_below}
use Rattle.words.proofs.shrunk_twice.Goals as goal

pub returns-else-a-b : goal.returns-else-a-b
returns-else-a-b c = lies_below _ _ refl (omega arith)
