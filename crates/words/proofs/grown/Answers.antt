use mathlib.Core.Path.{refl}
use native.Mathlib.Omega.{arith}
use Rattle.words.proofs.Fit.{lies_in, lies_above}
use Rattle.words.proofs.grown.Goals as goal

pub returns-then-d-t : goal.returns-then-d-t
returns-then-d-t c = lies_in _ _ _ refl c.lowered.ensures (omega arith) (omega arith)

pub returns-else-d-t : goal.returns-else-d-t
returns-else-d-t c = lies_above _ _ refl (omega arith)
