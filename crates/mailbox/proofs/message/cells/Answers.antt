use mathlib.Core.Path.{refl}
use borrow.Author.Rules.{rules}
use Rattle.mailbox.proofs.message.cells.Goals as goal

pub returns-in-Fill : goal.returns-in-Fill
returns-in-Fill c = rw c.in-Fill.is (search rules)

pub returns-in-Rested : goal.returns-in-Rested
returns-in-Rested c = rw c.in-Rested.is (search rules)

pub returns-in-Replenished : goal.returns-in-Replenished
returns-in-Replenished c = rw c.in-Replenished.is (search rules)

pub returns-in-Modified : goal.returns-in-Modified
returns-in-Modified c = rw c.in-Modified.is (search rules)

pub returns-in-StopPlaced : goal.returns-in-StopPlaced
returns-in-StopPlaced c = rw c.in-StopPlaced.is (search rules)

pub returns-in-MassCancelled : goal.returns-in-MassCancelled
returns-in-MassCancelled c = rw c.in-MassCancelled.is refl
