-- A checkpoint's contents in a state that begins, part by part.
use Rattle.std.specs.Prelude.{ℕ, ◌≤◌, ◌<◌, ◌≡◌, List, [], ◌∷◌, ◌++◌, get_or, set, Option, Some, None, ℤ}
use Rattle.accounts.specs.declared.Funds.{Funds}
use Rattle.table.specs.Live.{Each}
use Rattle.gateway.specs.Basics.{each}
use Rattle.gateway.specs.Limits.{owner_slots, most_orders}
use Rattle.gateway.specs.Table.{Rises}
use Rattle.gateway.specs.Ledger.{Order, Ledger, number_of, with_orders}
use Rattle.gateway.specs.Invariant.{Inside}
use Rattle.gateway.specs.Calls.{Gateway}
use Rattle.gateway.specs.Saved.{Saved, slots}
use Rattle.gateway.specs.Start.{restored_wallet, restored_wallets, hold_notice_of}
use Rattle.store.specs.Cells as C
use Rattle.store.specs.Layout.{cell}
use Rattle.store.specs.View.{Store, word, gateway}
use Rattle.sound.specs.Sound.{State, Becomes}
use Rattle.live.specs.Live.{with_ledger, with_notices}

-- ---- the ledger with another part

abbrev pub with_mark : Option ℤ → Ledger → Ledger
with_mark p l = record { last = l.last; wallets = l.wallets; orders = l.orders; mark = p; fee = l.fee }

abbrev pub with_wallets : List (Option Funds) → Ledger → Ledger
with_wallets ws l = record { last = l.last; wallets = ws; orders = l.orders; mark = l.mark; fee = l.fee }

-- ---- wallets

-- a wallet of the bytes, for an account that has one by its funds
abbrev pub owned : ℕ × Funds → List (Option Funds) → List (Option Funds)
owned w ws = set ws w.0 (restored_wallet (get_or ws w.0 None) (Some w.1))

abbrev pub all_owned : List (ℕ × Funds) → List (Option Funds) → List (Option Funds)
all_owned [] ws = ws
all_owned (w ∷ l) ws = all_owned l (owned w ws)

abbrev pub own : ℕ × Funds → Ledger → Ledger
own w l = with_wallets (owned w l.wallets) l

abbrev pub own_all : List (ℕ × Funds) → Ledger → Ledger
own_all ws l = with_wallets (all_owned ws l.wallets) l

-- ---- orders

-- what a live order asks: numbers below its own, a row, and an account's row
pub record HasRoom (o : Order) (s : Store) : Type 0 where
  pub above : (j : ℕ) → j < word s C.order_rows → s C.orders j C.order_number < o.number
  pub at_most_last : o.number ≤ word s C.last
  pub room : word s C.live_orders < most_orders
  pub owner_is : o.account < owner_slots

-- it came behind the others, and no row has a later number
pub record Places (o : Order) (xs ys : List ℕ) : Type 0 where
  pub becomes : Becomes ys (with_ledger (λ l. with_orders (l.orders ++ (o ∷ [])) l) (gateway (cell xs)))
  pub last : (j : ℕ) → j < word (cell ys) C.order_rows → cell ys C.orders j C.order_number ≤ o.number

-- ---- notices

abbrev pub noticed : List Order → Gateway → Gateway
noticed os g = with_notices (each (hold_notice_of g.core.ledger.fee g.core.ledger.wallets) os) g

-- ---- the whole

-- accounts have rows, and orders stand by their numbers, up to the last
pub record Fits (s : Saved) : Type 0 where
  pub owners : Each (λ (w : ℕ × Funds). w.0 < owner_slots) s.wallets
  pub wallets_rise : Rises (λ (w : ℕ × Funds). w.0) 0 s.wallets
  pub orders_rise : Rises number_of 0 s.orders
  pub inside : Each (Inside s.last owner_slots) s.orders

-- the accounts and the last number are there and nothing else, and no row of orders is in use
pub record Empty (s : Saved) (xs : List ℕ) : Type 0 where
  pub state : State xs
  pub no_rows : word (cell xs) C.order_rows ≡ 0
  pub last_is : (gateway (cell xs)).core.ledger.last ≡ s.last
  pub no_orders : (gateway (cell xs)).core.ledger.orders ≡ []
  pub no_mark : (gateway (cell xs)).core.ledger.mark ≡ None
  pub no_notices : (gateway (cell xs)).rest.notices ≡ []

-- the ledger of the contents: the wallets by the accounts' funds and the bytes' amounts
abbrev pub filled : Saved → Ledger → Ledger
filled s l =
    record { last = l.last; wallets = restored_wallets l.wallets (slots owner_slots 0 s.wallets); orders = s.orders; mark = s.mark; fee = l.fee }

unfoldable pub refilled : Saved → Gateway → Gateway
refilled s g = noticed s.orders (with_ledger (filled s) g)
