use mathlib.Core.Path.{ap, ◌∙◌}
use native.Mathlib.Omega.{arith}
use Rattle.words.specs.Words.{place_of}
use Rattle.words.proofs.Diff.{⊖_same}
use Rattle.words.proofs.moved_twice.Goals as goal

pub returns-then-old2-new2 : goal.returns-then-old2-new2
returns-then-old2-new2 c = c.grown_twice.ensures ∙ ap place_of (⊖_same _ _ _ _ (omega arith))

pub returns-else-old2-new2 : goal.returns-else-old2-new2
returns-else-old2-new2 c = c.moved.ensures ∙ ap place_of (⊖_same _ _ _ _ (omega arith))

pub returns-then-old2-new2-2 : goal.returns-then-old2-new2-2
returns-then-old2-new2-2 c = c.moved-then-old2-new2-2.ensures ∙ ap place_of (⊖_same _ _ _ _ (omega arith))

pub returns-else-old2-new2-2 : goal.returns-else-old2-new2-2
returns-else-old2-new2-2 c = c.shrunk_twice.ensures ∙ ap place_of (⊖_same _ _ _ _ (omega arith))
