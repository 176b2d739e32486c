use native.Mathlib.Omega.{arith}
use Rattle.gateway.specs.Ledger.{owner_of}
use mathlib.Core.Path.{refl}
use borrow.Author.Rules.{rules}
use Rattle.pending.proofs.batch.row_of.Goals as goal

pub returns-in-Limit : goal.returns-in-Limit
unfolding owner_of
returns-in-Limit c =
    rw c.in-Limit.is (search rules, record { owner_fits = omega arith; prices_fit = record { sfits = (search rules) } })

pub returns-in-Market : goal.returns-in-Market
unfolding owner_of
returns-in-Market c = rw c.in-Market.is (search rules, record { owner_fits = omega arith; prices_fit = tt })

pub returns-in-Cancel : goal.returns-in-Cancel
unfolding owner_of
returns-in-Cancel c = rw c.in-Cancel.is (refl, record { owner_fits = omega arith; prices_fit = tt })

pub returns-in-Modify : goal.returns-in-Modify
unfolding owner_of
returns-in-Modify c =
    rw c.in-Modify.is (search rules, record { owner_fits = omega arith; prices_fit = record { sfits = (search rules) } })

pub returns-in-Stop : goal.returns-in-Stop
unfolding owner_of
returns-in-Stop c =
    rw (c.in-Stop.is, c.price_flag-flag.ensures, c.price_word-word.ensures.0) (search rules, record { owner_fits = omega arith; prices_fit = (record { sfits = (search rules) }, c.price_word-word.ensures.1) })

pub returns-in-CancelAll : goal.returns-in-CancelAll
unfolding owner_of
returns-in-CancelAll c = rw c.in-CancelAll.is (refl, record { owner_fits = omega arith; prices_fit = tt })

pub returns-in-SetPhase : goal.returns-in-SetPhase
unfolding owner_of
returns-in-SetPhase c = rw c.in-SetPhase.is (refl, record { owner_fits = omega arith; prices_fit = tt })
