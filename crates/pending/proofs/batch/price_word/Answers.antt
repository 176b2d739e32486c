use mathlib.Core.Path.{refl}
use borrow.Author.Rules.{rules}
use Rattle.pending.proofs.batch.price_word.Goals as goal

pub returns-in-None : goal.returns-in-None
returns-in-None c = rw c.in-None.is (refl, tt)

pub returns-in-Some : goal.returns-in-Some
returns-in-Some c = rw c.in-Some.is (search rules, record { sfits = (search rules) })
