use Rattle.stored.proofs.Laws.{laws, bytes_else}
use Rattle.std.proofs.Common.{⊎_elim, arith}
use Rattle.stored.proofs.bytes_of.Goals as goal
use Rattle.stored.proofs.bytes_of.Goals.{in_default-via-then-this-lt18, in_default-via-else-this-lt18+else-this-lt21}

pub returns-in-6 : goal.returns-in-6
returns-in-6 c = search laws

pub returns-in-0 : goal.returns-in-0
returns-in-0 c = search laws

pub returns-in-19 : goal.returns-in-19
returns-in-19 c = search laws

pub returns-in_default-clause-value : goal.returns-in_default-clause-value
returns-in_default-clause-value c =
    elim c.in_default.branch [
      | in_default-via-then-this-lt18 w ↦ bytes_else _ _ _ _ c.word.ensures (λ q. omega arith) (λ o. ⊎_elim (λ q. omega arith) (λ q. omega arith) o) (λ q. omega arith) (λ q. omega arith) c.at_most-in_default.ensures.value
      | in_default-via-else-this-lt18+else-this-lt21 w ↦ bytes_else _ _ _ _ c.word.ensures (λ q. omega arith) (λ o. ⊎_elim (λ q. omega arith) (λ q. omega arith) o) (λ q. omega arith) (λ q. omega arith) c.at_most-in_default.ensures.value
    ]
