-- The contents of a checkpoint: what is taken from the ledger, and the ledger that starts from them.
use Rattle.std.specs.Prelude.{ℕ, zero, suc, cond, List, [], ◌∷◌, ℤ, eqb, Option, Some, None}
use Rattle.accounts.specs.declared.Funds.{Funds}
use Rattle.gateway.specs.Limits.{owner_slots}
use Rattle.gateway.specs.Ledger.{Order, Ledger}

-- wallets ascending by account, orders ascending by number
pub record Saved : Type 0 where
  pub last : ℕ
  pub mark : Option ℤ
  pub wallets : List (ℕ × Funds)
  pub orders : List Order

-- the wallets of slots that start with account a
abbrev pub saved_from : ℕ → List (Option Funds) → List (ℕ × Funds)
saved_from a [] = []
saved_from a (None ∷ ws) = saved_from (suc a) ws
saved_from a (Some w ∷ ws) = (a, w) ∷ saved_from (suc a) ws

-- n slots that start with account a, filled from an ascending list
abbrev pub slots : ℕ → ℕ → List (ℕ × Funds) → List (Option Funds)
slots zero a xs = []
slots (suc n) a [] = None ∷ slots n (suc a) []
slots (suc n) a (x ∷ xs) = cond (eqb x.0 a) (Some x.1 ∷ slots n (suc a) xs) (None ∷ slots n (suc a) (x ∷ xs))

unfoldable pub contents : Ledger → Saved
contents l = record { last = l.last; mark = l.mark; wallets = saved_from 0 l.wallets; orders = l.orders }

-- the ledger's start, with the fee that is handed in
unfoldable pub opening : ℤ → Saved → Ledger
opening fee s = record { last = s.last; wallets = slots owner_slots 0 s.wallets; orders = s.orders; mark = s.mark; fee = fee }
