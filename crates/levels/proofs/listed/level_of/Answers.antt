use mathlib.Core.Path.{refl, ◌∙◌}
use Rattle.words.proofs.Int.{read}
use Rattle.levels.proofs.listed.level_of.Goals as goal

pub returns : goal.returns
returns c = rw (read {x = c.to_i64.result} c.to_i64.type_inv ∙ c.to_i64.ensures ∙ c.lowered.ensures) refl
