-- The start with the accounts of a roster.
use Rattle.std.specs.Prelude.{ℕ, zero, suc, ◌<◌, ◌≡◌, true, List, [], ◌∷◌, ◌++◌, ℤ, Option, Some}
use Rattle.accounts.specs.declared.Account.{Account}
use Rattle.accounts.specs.declared.Timing.{Timing}
use Rattle.gateway.specs.Basics.{option}
use Rattle.gateway.specs.Fits.{AccountFits, AccountsFit}
use Rattle.gateway.specs.Start.{all_below}
use Rattle.gateway.specs.Calls.{Gateway}
use Rattle.store.specs.Cells as C
use Rattle.store.specs.Layout.{cell}
use Rattle.store.specs.View.{word, gateway}
use Rattle.sound.specs.Sound.{Becomes}
use Rattle.start.specs.Start.{begun, entering}
use Rattle.roster.specs.declared.Roster.{Roster}
use Rattle.roster.specs.Rostered.{account_of}

-- the accounts numbered below n, ascending
unfoldable pub present : Roster → ℕ → List Account
present r zero = []
present r (suc n) = present r n ++ option [] (λ a. a ∷ []) (account_of r n)

-- a slot's account is below the owner limit
pub record CanEnter (s : Option Account) (xs : List ℕ) : Type 0 where
  pub below : (a : Account) → s ≡ Some a → a.id < word (cell xs) C.owner_limit

pub record Enters (s : Option Account) (xs ys : List ℕ) : Type 0 where
  pub becomes : Becomes ys (option (gateway (cell xs)) (λ a. entering a (gateway (cell xs))) s)
  pub fits : (a : Account) → s ≡ Some a → AccountFits a
  pub rows_are : word (cell ys) C.order_rows ≡ word (cell xs) C.order_rows

abbrev pub admitted : List Account → Gateway → Gateway
admitted [] g = g
admitted (a ∷ l) g = admitted l (entering a g)

-- the accounts l were entered, and their funds fit
pub record Admits (l : List Account) (xs ys : List ℕ) : Type 0 where
  pub becomes : Becomes ys (admitted l (gateway (cell xs)))
  pub fit : AccountsFit l
  pub rows_are : word (cell ys) C.order_rows ≡ word (cell xs) C.order_rows

-- ys holds the start with the accounts l, and no row of orders
pub record Stands (fee : ℤ) (limit last : ℕ) (timing : Timing) (l : List Account) (ys : List ℕ) : Type 0 where
  pub becomes : Becomes ys (begun fee limit last timing l)
  pub fit : AccountsFit l
  pub below : all_below limit l ≡ true
  pub no_rows : word (cell ys) C.order_rows ≡ 0
