-- The roster, account by account. Assumes nothing.
use Rattle.std.specs.Prelude.{Some}
use Prim.Native.Nat.{ℕ, ◌≤◌, ◌<◌}
use mathlib.Core.Path.{◌≡◌, refl}
use mathlib.Core.Bool.{false}
use native.Mathlib.Omega.{arith}
use borrow.Author.Tests.{lt-ltb, le-ltb}
use lib.ListN.{set}
use Rattle.accounts.specs.declared.Account.{Account}
use Rattle.gateway.specs.Limits.{owner_slots}
use Rattle.roster.specs.declared.Roster.{Roster}
use Rattle.roster.specs.Rostered.{enter}

module _ (limit : ℕ) (r : Roster) (a : Account) where
  pub enter_above : limit ≤ a.id → record { below = false; slots = r.slots } ≡ enter limit r a
  unfolding enter
  enter_above l = rw (le-ltb a.id limit l) refl

  pub enter_past : a.id < limit → owner_slots ≤ a.id → r ≡ enter limit r a
  unfolding enter
  enter_past l h = rw (lt-ltb a.id limit l, le-ltb a.id owner_slots h) refl

  pub enter_in : a.id < limit → a.id < owner_slots → record { below = r.below; slots = set r.slots a.id (Some a) } ≡ enter limit r a
  unfolding enter
  enter_in l h = rw (lt-ltb a.id limit l, lt-ltb a.id owner_slots h) refl

pub ruleset laws = (enter_above, enter_past, enter_in, arith)
