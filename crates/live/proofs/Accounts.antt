-- Writes to an account's row: what the gateway sees of them, the tables that they leave alone, and the cells that follow a live order. Assumes nothing.
use Rattle.std.specs.Prelude.{Option, Some, None, option_map}
use mathlib.Core.Path.{◌≡◌, refl, ap, ◌∙◌}
use mathlib.Core.Bool.{true, false, true≢false}
use mathlib.Core.List.{[], ◌∷◌}
use Prim.Native.Nat.{ℕ, ◌+◌, ◌-◌, ◌<◌}
use native.Mathlib.Omega.{arith}
use borrow.Author.Tests.{eq-eqb, ne_eqb}
use lib.IntN.{ℤ, pos, ◌+ℤ◌, ◌-ℤ◌, ◌*ℤ◌, +ℤ_idr}
use Rattle.orderbook.specs.declared.Side.{Side}
use Rattle.orderbook.specs.declared.Side.TheVariants.{Buy, Sell}
use Rattle.words.specs.Words.{int, wrap}
use Rattle.words.proofs.Wrap.{int_zero_wraps, fit_wraps}
use Rattle.wallet.specs.Wallet as W
use Rattle.gateway.specs.Ledger.{Order, hold, order_hold, same_side, held, open_of}
use Rattle.store.specs.Cells as C
use Rattle.store.specs.View.{Store, write, side, maybe_price, account, gateway}
use Rattle.orders.proofs.Views.{bounds_from}
use Rattle.levels.specs.Levels.{used, size, row}
use Rattle.clients.proofs.Views.{cache_view}
use Rattle.pending.proofs.Chain.{chained_same}
use Rattle.sound.specs.Sound.{held_cell, Clients, Tables}
use Rattle.sound.proofs.Kept.{sided, outline, tables_beside, clients_write}
use Rattle.sound.proofs.Totals.{Counts}
use Rattle.live.specs.Live.{hold_word, shift}

-- ---- cells of an account's row

pub shift_view : (a : ℕ) (z : Side) (old new : ℕ) (s : Store) → gateway (shift a z old new s) ≡ gateway s
unfolding shift
shift_view a Buy old new s = cache_view a C.account_cash_held _ s (rw (eq-eqb a a refl) refl) (rw (eq-eqb a a refl) refl) (rw (eq-eqb a a refl) refl)
shift_view a Sell old new s = cache_view a C.account_position_held _ s (rw (eq-eqb a a refl) refl) (rw (eq-eqb a a refl) refl) (rw (eq-eqb a a refl) refl)

pub open_view : (a v : ℕ) (s : Store) → gateway (write C.accounts a C.account_open_orders v s) ≡ gateway s
open_view a v s = cache_view a C.account_open_orders v s (rw (eq-eqb a a refl) refl) (rw (eq-eqb a a refl) refl) (rw (eq-eqb a a refl) refl)

-- the tables are elsewhere
pub tables_write : (a k v : ℕ) (s : Store) → Tables s → Tables (write C.accounts a k v s)
unfolding used size
tables_write a k v s d =
    tables_beside
    (record {
      keeps = record { rows_are = refl; live_are = refl; resting_are = refl; cells = λ j k l m. refl; map_is = λ j l. refl; fee_is = refl };
      sizes = sided (λ z. outline z (write C.accounts a k v s) ≡ outline z s) refl refl;
      levels_are = sided (λ z. (j : ℕ) → j < used z s → row z (write C.accounts a k v s) j ≡ row z s j) (λ j l. refl) (λ j l. refl);
    })
    (record { bounds = bounds_from s (write C.accounts a k v s) (λ k l x y z. refl) d.ordered.bounds.orders_fit d.ordered.bounds; last_is = omega arith; run = d.run; chained = chained_same refl d.chained })
    d

pub tables_shift : (a : ℕ) (z : Side) (old new : ℕ) (s : Store) → Tables s → Tables (shift a z old new s)
unfolding shift
tables_shift a z old new s = tables_write a (held_cell z) _ s

pub clients_shift : (a : ℕ) (z : Side) (old new : ℕ) (s : Store) → Clients s → Clients (shift a z old new s)
unfolding shift
clients_shift a Buy old new s = clients_write a C.account_cash_held _ s (λ r. refl)
clients_shift a Sell old new s = clients_write a C.account_position_held _ s (λ r. refl)

-- ---- the cells that follow a live order

-- how many there are does not change
module _ (c old new n : ℕ) (s : Store) where
  pub shift_counts : (w : Side) → Counts s (shift c w old new s) c w (int old) (int new) n n
  unfolding shift
  shift_counts Buy =
      record {
        others = λ a e. rw (ne_eqb a c e) refl;
        opposite = λ z e. other z e;
        total = rw (eq-eqb c c refl) refl;
        count = rw (eq-eqb c c refl) refl;
      }
    where
      other : (z : Side) → same_side z Buy ≡ false → shift c Buy old new s C.accounts c (held_cell z) ≡ s C.accounts c (held_cell z)
      other Buy e = absurd (true≢false e)
      other Sell e = rw (eq-eqb c c refl) refl
  shift_counts Sell =
      record {
        others = λ a e. rw (ne_eqb a c e) refl;
        opposite = λ z e. other z e;
        total = rw (eq-eqb c c refl) refl;
        count = rw (eq-eqb c c refl) refl;
      }
    where
      other : (z : Side) → same_side z Sell ≡ false → shift c Sell old new s C.accounts c (held_cell z) ≡ s C.accounts c (held_cell z)
      other Buy e = rw (eq-eqb c c refl) refl
      other Sell e = absurd (true≢false e)

-- and where it does
pub open_counts : (c v : ℕ) (s : Store) (t : Store) (w : Side) (x y : ℤ) (m n : ℕ) → v + m ≡ s C.accounts c C.account_open_orders + n →
    Counts (write C.accounts c C.account_open_orders v s) t c w x y 0 0 → Counts s t c w x y m n
open_counts c v s t w x y m n q e =
    record {
      others = λ a ne. e.others a ne ∙ rw (ne_eqb a c ne) refl;
      opposite = λ z ne. e.opposite z ne ∙ held_other z;
      total = e.total ∙ ap (λ b. wrap (int b -ℤ x +ℤ y)) (held_other w);
      count = let f = e.count in let g : write C.accounts c C.account_open_orders v s C.accounts c C.account_open_orders ≡ v = rw (eq-eqb c c refl) refl in omega arith;
    }
  where
    held_other : (z : Side) → write C.accounts c C.account_open_orders v s C.accounts c (held_cell z) ≡ s C.accounts c (held_cell z)
    held_other Buy = rw (eq-eqb c c refl) refl
    held_other Sell = rw (eq-eqb c c refl) refl

-- ---- holds

held_price : (z : Side) (p : Option ℤ) (v : ℕ) → int (wrap (W.held z p v)) ≡ W.held z p v
held_price z None v = int_zero_wraps
held_price Buy (Some p) v = fit_wraps (p *ℤ pos v) (pos 0) int_zero_wraps
held_price Sell (Some p) v = fit_wraps (pos v) (pos 0) int_zero_wraps

pub hold_is : (fee z c p v : ℕ) → int (hold_word fee z c p v) ≡ hold (int fee) (side z) (maybe_price c p) v
unfolding hold_word hold
hold_is fee z c p v = held_price (side z) (option_map (W.charged (int fee) (side z)) ((maybe_price c p))) v

itself : (z : Side) → same_side z z ≡ true
itself Buy = refl
itself Sell = refl

pub held_one : (fee : ℤ) (o : Order) → held fee o.account o.side (o ∷ []) ≡ order_hold fee o
held_one fee o = rw (eq-eqb o.account o.account refl, itself o.side) (+ℤ_idr (order_hold fee o))

pub open_one : (o : Order) → open_of o.account (o ∷ []) ≡ 1
open_one o = rw (eq-eqb o.account o.account refl) refl
