-- Two states whose gateways agree on the books agree cell by cell. Assumes nothing.
use Rattle.std.specs.Prelude.{Option, Some, None, option_map}
use mathlib.Core.Path.{◌≡◌, refl, sym, ap, ap₂, ◌∙◌}
use mathlib.Core.List.{List, [], ◌∷◌, ◌++◌, map, map-append}
use Prim.Native.Nat.{ℕ, zero, suc, ◌<◌}
use native.Mathlib.Omega.{arith}
use lib.IntN.{ℤ}
use Rattle.orderbook.specs.declared.Side.{Side}
use Rattle.protocol.specs.declared.Balance.{Balance}
use Rattle.accounts.specs.declared.Funds.{Funds}
use Rattle.words.specs.Words.{wrap}
use Rattle.table.specs.Live.{pick, live}
use Rattle.gateway.specs.Limits.{owner_slots}
use Rattle.gateway.specs.Ledger.{Order, order_hold, held}
use Rattle.gateway.specs.Core.{Core}
use Rattle.gateway.specs.Entry.{wallet_at, balance_with, balance}
use Rattle.gateway.specs.Restart.{forget, SameBooks}
use Rattle.gateway.proofs.Forget.{held_forget}
use Rattle.store.specs.Cells as C
use Rattle.store.specs.View.{Row, Store, word, order, wallet, marked, ledger, gateway}
use Rattle.orders.proofs.Shown.{map_pick}
use Rattle.clients.proofs.Views.{wallet_at_row}
use Rattle.sound.specs.Sound.{Stored, held_cell, Held, Sound}
use Rattle.restart.specs.Chain.{Holding, holding, forget_ref, SameCells}

-- ---- live orders

abbrev with_hold : ℤ → Order → Holding
with_hold fee o = record { of = o; hold = order_hold fee o }

-- each live row stores what its order holds
module _ (s : Store) where
  rows_hold : (n : ℕ) → ((j : ℕ) → j < n → 0 < s C.orders j C.order_live → Stored (ledger s).fee (s C.orders j)) →
      map (λ (p : ℕ × Holding). p.1) (live (λ (p : ℕ × Holding). p.0) (λ i. (s C.orders i C.order_live, holding (s C.orders i))) n)
      ≡ map (with_hold (ledger s).fee) (map (λ (p : ℕ × Order). p.1) (live (λ (p : ℕ × Order). p.0) (λ i. (s C.orders i C.order_live, order (s C.orders i))) n))
  unfolding live
  rows_hold zero h = refl
  rows_hold (suc n) h =
      map-append (λ (p : ℕ × Holding). p.1) (live (λ (p : ℕ × Holding). p.0) (λ i. (s C.orders i C.order_live, holding (s C.orders i))) n)
      (pick (s C.orders n C.order_live) (s C.orders n C.order_live, holding (s C.orders n)))
      ∙ ap₂ (λ (a b : List Holding). a ++ b) (rows_hold n (λ j l. h j (omega arith))) (row (s C.orders n C.order_live) (h n (omega arith)))
      ∙ sym
      (ap (map (with_hold (ledger s).fee))
      (map-append (λ (p : ℕ × Order). p.1) (live (λ (p : ℕ × Order). p.0) (λ i. (s C.orders i C.order_live, order (s C.orders i))) n)
      (pick (s C.orders n C.order_live) (s C.orders n C.order_live, order (s C.orders n))))
      ∙ map-append (with_hold (ledger s).fee) (map (λ (p : ℕ × Order). p.1) (live (λ (p : ℕ × Order). p.0) (λ i. (s C.orders i C.order_live, order (s C.orders i))) n))
      (map (λ (p : ℕ × Order). p.1) (pick (s C.orders n C.order_live) (s C.orders n C.order_live, order (s C.orders n)))))
    where
      row : (k : ℕ) → (0 < k → Stored (ledger s).fee (s C.orders n)) →
          map (λ (p : ℕ × Holding). p.1) (pick k (k, holding (s C.orders n))) ≡ map (with_hold (ledger s).fee) (map (λ (p : ℕ × Order). p.1) (pick k (k, order (s C.orders n))))
      row zero t = refl
      row (suc k) t = ap (λ z. record { of = order (s C.orders n); hold = z } ∷ []) (t (omega arith)).hold_is

  pub orders_hold : Held s → marked s C.order_live holding ≡ map (with_hold (ledger s).fee) (ledger s).orders
  orders_hold d = rows_hold (word s C.order_rows) d.rows

forget_hold : (fee : ℤ) (n : ℕ) (os : List Order) → map (with_hold fee) (map (forget n) os) ≡ map (forget_ref n) (map (with_hold fee) os)
forget_hold fee n [] = refl
forget_hold fee n (o ∷ os) = ap (λ l. with_hold fee (forget n o) ∷ l) (forget_hold fee n os)

-- ---- wallets

-- what an account owns, of its balance
abbrev owned : Balance → Funds
owned b = record { cash = b.cash; position = b.position }

own_back : (fee : ℤ) (a : ℕ) (os : List Order) (w : Option Funds) → option_map owned (option_map (balance_with fee a os) w) ≡ w
own_back fee a os None = refl
own_back fee a os (Some f) = refl

same_wallet : (a : ℕ) (c d : Core) → balance a d ≡ balance a c → wallet_at a d ≡ wallet_at a c
same_wallet a c d e =
    sym (own_back d.ledger.fee a d.ledger.orders (wallet_at a d)) ∙ ap (option_map owned) e ∙ own_back c.ledger.fee a c.ledger.orders (wallet_at a c)

-- ---- the whole

pub cells_agree : (n : ℕ) (s t : Store) → Sound s → Sound t → SameBooks n (gateway s).core (gateway t).core → SameCells n s t
cells_agree n s t p q e =
    record {
      last = e.last;
      mark = e.mark;
      fee = e.fee;
      orders =
          orders_hold t q.held ∙ (λ i. map (with_hold (e.fee i)) (e.orders i)) ∙ forget_hold (ledger s).fee n (ledger s).orders ∙ sym (ap (map (forget_ref n)) (orders_hold s p.held));
      wallets = λ a l. sym (wallet_at_row a t l) ∙ same_wallet a (gateway s).core (gateway t).core (e.wallet a) ∙ wallet_at_row a s l;
      held = λ a l z.
          q.held.totals a l z ∙ (λ i. wrap (held (e.fee i) a z (e.orders i))) ∙ ap wrap (held_forget n (ledger s).fee a z (ledger s).orders) ∙ sym (p.held.totals a l z);
      open_counts = λ a l. q.held.counts a l ∙ e.open_count a ∙ sym (p.held.counts a l);
    }
