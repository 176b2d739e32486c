use mathlib.Core.Path.{ap, ◌∙◌}
use Rattle.words.specs.Words.{fit_in}
use Rattle.words.proofs.total.Goals as goal

pub returns : goal.returns
returns c = c.amount_at.ensures ∙ ap fit_in c.place_of.ensures
