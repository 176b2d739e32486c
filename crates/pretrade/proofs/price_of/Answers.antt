use Rattle.words.proofs.Int.{read}
use mathlib.Core.Path.{refl}
use borrow.Author.Rules.{rules}
use Rattle.pretrade.proofs.price_of.Goals as goal

pub returns-in-Limit : goal.returns-in-Limit
returns-in-Limit c = rw (c.in-Limit.is, read {x = c.in-Limit.price} (search rules)) refl
