-- How a list of calls begins: the one form of contract for set-up and restore.
use Rattle.std.specs.Prelude.{ℕ, List}
use Rattle.accounts.specs.declared.Account.{Account}
use Rattle.gateway.specs.Start.{Started, not_started, started}
use Rattle.outcome.specs.Answers.{Refused, Done}
use Rattle.outcome.specs.Between.{Between}
use Rattle.roster.specs.declared.Roster.{Roster}
use Rattle.roster.specs.Rostered.{Gathered}

-- begun: code 0, the bytes ys hold the gateway that begins, and what is true between calls is true
pub record Begun (code : ℕ) (ys : List ℕ) (done : Type 0) : Type 0 where
  pub is_done : done
  pub between : Between ys

-- refused, the code, and every byte as it was; or begun
unfoldable pub Starts : Started → (code : ℕ) → (xs ys : List ℕ) → Type 0
Starts (not_started k) code xs ys = Refused k code xs ys (Unit {0})
Starts (started g) code xs ys = Begun code ys (Done g code ys (Unit {0}))

-- the same of a start that is given a roster: for every list of accounts that it is the roster of
pub record Begins (limit : ℕ) (r : Roster) (s : List Account → Started) (code : ℕ) (xs ys : List ℕ) : Type 0 where
  pub starts : (l : List Account) → Gathered limit l r → Starts (s l) code xs ys
