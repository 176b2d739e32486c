use mathlib.Core.Path.{◌∙◌}
use Rattle.words.proofs.Int.{read}
use borrow.Author.Rules.{rules}
use Rattle.pending.proofs.batch.price_of.Goals as goal

pub returns : goal.returns
returns c = rw (c.then_some.ensures, read {x = c.to_i64.result} c.to_i64.type_inv ∙ c.to_i64.ensures) (search rules)
