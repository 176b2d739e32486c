use mathlib.Core.Path.{refl, ◌∙◌}
use native.Mathlib.Omega.{arith}
use Rattle.words.proofs.Diff.{⊖_same}
use Rattle.words.proofs.Fit.{lies_in, lies_below}
use Rattle.words.proofs.shrunk.Goals as goal

pub returns-then-d-t : goal.returns-then-d-t
returns-then-d-t c = lies_in _ _ _ refl (c.lowered.ensures ∙ ⊖_same _ _ _ _ (omega arith)) (omega arith) (omega arith)

pub returns-else-d-t : goal.returns-else-d-t
returns-else-d-t c = lies_below _ _ refl (omega arith)
