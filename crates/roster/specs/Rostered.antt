-- The roster of a list of accounts.
use Rattle.std.specs.Prelude.{ℕ, ◌≤◌, ◌<◌, ◌≡◌, true, false, cond, List, [], ◌∷◌, ltb, length, get_or, set, replicate, Option, Some, None}
use Rattle.accounts.specs.declared.Account.{Account}
use Rattle.gateway.specs.Limits.{owner_slots}
use Rattle.gateway.specs.Start.{all_below, accounts_of}
use Rattle.store.specs.View.{listed}
use Rattle.roster.specs.declared.Roster.{Roster}

abbrev pub nobody : Roster
nobody = record { below = true; slots = replicate owner_slots None }

-- one account more
unfoldable pub enter : ℕ → Roster → Account → Roster
enter limit r a =
    cond (ltb a.id limit)
    (cond (ltb a.id owner_slots) (record { below = r.below; slots = set r.slots a.id (Some a) }) r)
    (record { below = false; slots = r.slots })

-- and each account of a list, in order
unfoldable pub entered : ℕ → Roster → List Account → Roster
entered limit r [] = r
entered limit r (a ∷ l) = entered limit (enter limit r a) l

-- the account of a number
abbrev pub account_of : Roster → ℕ → Option Account
account_of r i = get_or r.slots i None

-- each account stands at its number, below the owner limit
pub record Numbered (limit : ℕ) (r : Roster) : Type 0 where
  pub size : length r.slots ≡ owner_slots
  pub at : (i : ℕ) (a : Account) → account_of r i ≡ Some a → (a.id ≡ i) × (i < limit)

-- r has the definitions' table of the accounts l, where the limit is at most 256
pub record Gathered (limit : ℕ) (l : List Account) (r : Roster) : Type 0 where
  pub numbered : Numbered limit r
  pub below : r.below ≡ all_below limit l
  pub table : limit ≤ owner_slots → listed (account_of r) limit ≡ accounts_of limit l
