use mathlib.Core.Path.{ap, ◌∙◌}
use native.Mathlib.Omega.{arith}
use Rattle.words.specs.Words.{place_of}
use Rattle.words.proofs.Diff.{⊖_same}
use Rattle.words.proofs.moved.Goals as goal

pub returns-then-old-new : goal.returns-then-old-new
returns-then-old-new c = c.grown.ensures ∙ ap place_of (⊖_same _ _ _ _ (omega arith))

pub returns-else-old-new : goal.returns-else-old-new
returns-else-old-new c = c.shrunk.ensures ∙ ap place_of (⊖_same _ _ _ _ (omega arith))
