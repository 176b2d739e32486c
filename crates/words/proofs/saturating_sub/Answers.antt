use mathlib.Core.Path.{ap, ◌∙◌}
use Rattle.words.specs.Words.{nearest_to, place_of}
use Rattle.words.proofs.Laws.{plus_zero}
use Rattle.words.proofs.saturating_sub.Goals as goal

pub returns : goal.returns
returns c = let a = c.args in c.nearest.ensures ∙ ap nearest_to (c.place_of.ensures ∙ ap place_of (plus_zero a.a a.b))
