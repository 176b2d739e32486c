-- What keeps both tables: an empty state, what is written to the orders, what changes the levels of a side. Assumes nothing.
use mathlib.Core.Path.{◌≡◌, refl, sym, ◌∙◌}
use mathlib.Core.Bool.{true}
use mathlib.Core.List.{List}
use Prim.Native.Nat.{ℕ, zero, suc, ◌+◌, ◌/◌, ◌≤◌, ◌<◌}
use native.Mathlib.Nat.{not-suc-le-zero}
use native.Mathlib.Omega.{arith}
use borrow.Author.Tests.{le-ltb, ltb-true}
use mathlib.Core.Logic.{⊎_elim}
use Rattle.table.proofs.Live.{same?}
use Rattle.orderbook.specs.declared.Side.{Side}
use Rattle.orderbook.specs.declared.Side.TheVariants.{Buy, Sell}
use Rattle.table.specs.Live.{live}
use Rattle.gateway.specs.Ledger.{Order}
use Rattle.gateway.specs.Depth as D
use Rattle.store.specs.Cells as C
use Rattle.store.specs.Layout.{cell}
use Rattle.store.specs.View.{Row, Store, Same, word, fill, zeros, order_room, Bounds, Is, Ready}
use Rattle.store.proofs.Places.{header_cell, order_cell, order_map_cell}
use Rattle.bitmap.proofs.Laws.{zeros_bit}
use Rattle.orders.specs.declared.Live.{Live}
use Rattle.orders.specs.Orders.{Ordered, set_leaves, retire, strike, append, make_room, number_at}
use Rattle.orders.proofs.Views.{Did, Keeps, ordered_kept, same_keeps, bounds_same, did_bytes, set_leaves_view, retire_view, append_view}
use Rattle.orders.proofs.Room.{make_room_view, make_room_room, make_room_each, make_room_other}
use Rattle.levels.specs.Levels as L
use Rattle.levels.specs.declared.Row as LRow
use Rattle.levels.proofs.Laws.{used_place, size_place, block_cell, map_cell, header_not_block, no_levels}
use Rattle.levels.proofs.Views.{Untouched, table_kept, asks_stay, bids_stay}
use Rattle.maps.specs.Tables.{Stands, above}

pub stands_ready : {xs : List ℕ} → Stands xs → Ready xs
stands_ready s = record { holds = s.holds; bounds = s.orders.bounds }

-- ---- nothing in any cell

no_bounds : Bounds zeros
no_bounds =
    record {
      accounts_fit = omega arith;
      flights_fit = omega arith;
      batch_fits = omega arith;
      orders_fit = omega arith;
      bids_fit = omega arith;
      asks_fit = omega arith;
      trades_fit = omega arith;
      notices_fit = omega arith;
      changed_fit = omega arith;
    }

no_orders : Ordered zeros
unfolding live
no_orders =
    record {
      bounds = no_bounds;
      sorted = record { ascends = λ i j h l. absurd (not-suc-le-zero l); flags = λ j l. absurd (not-suc-le-zero l) };
      counted = record { live_count = refl; resting_count = refl };
      mapped = record { bits = λ j l. zeros_bit C.order_map zeros j refl ∙ sym (rw (le-ltb j 0 (omega arith)) refl) };
    }

pub zeros_stand : {ys : List ℕ} → Is ys zeros → Stands ys
unfolding L.used L.size L.entries live
zeros_stand {ys} h =
    let e : Same zeros (cell ys) = λ b i k c. sym (h.same b i k c) in
    record { holds = h.holds; orders = ordered_kept (same_keeps zeros (cell ys) e no_bounds) (bounds_same zeros (cell ys) e no_bounds) no_orders; levels = empty }
  where
    empty : (z : Side) → L.Table z ys
    empty z =
        let none = h.same C.header 0 (L.used_cell z) (used_place z) in
        record {
          holds = h.holds;
          few = rw none (omega arith);
          asc = rw none (λ i j g l. absurd (not-suc-le-zero l));
          counted = rw (none, h.same C.header 0 (L.size_cell z) (size_place z)) refl;
          mapped = rw none (no_levels z (cell ys) (λ j l. zeros_bit (L.map_block z) (cell ys) j (h.same (L.map_block z) (j / 64) C.map_bits (map_cell z j l))));
        }

-- ---- the orders change

module _ {xs ys : List ℕ} (s : Stands xs) (t : Store) (h : Is ys t) (e : (z : Side) → Untouched z (cell xs) t) where
  side_kept : (z : Side) → Untouched z (cell xs) (cell ys)
  unfolding L.used L.size
  side_kept z =
      record {
        used_is = h.same C.header 0 (L.used_cell z) (used_place z) ∙ (e z).used_is;
        size_is = h.same C.header 0 (L.size_cell z) (size_place z) ∙ (e z).size_is;
        rows_are = λ j k l q. h.same (L.block z) j k (block_cell z j k l q) ∙ (e z).rows_are j k l q;
        map_is = λ j l. h.same (L.map_block z) (j / 64) C.map_bits (map_cell z j l) ∙ (e z).map_is j l;
      }

  orders_stand : {was : Store} {os : List Order} {rs : List D.Resting} → Did was t os rs → Stands ys
  orders_stand {was} {os} {rs} d =
      record { holds = h.holds; orders = (did_bytes was t os rs ys h d).ordered; levels = λ z. table_kept z xs ys h.holds (side_kept z) (s.levels z) }

change_apart : (i v h : ℕ) (s : Store) (z : Side) → Untouched z s (set_leaves i v h s)
unfolding fill L.used L.size
change_apart i v h s Buy = record { used_is = refl; size_is = refl; rows_are = λ j k l q. refl; map_is = λ j l. refl }
change_apart i v h s Sell = record { used_is = refl; size_is = refl; rows_are = λ j k l q. refl; map_is = λ j l. refl }

retire_apart : (i : ℕ) (s : Store) (z : Side) → Untouched z s (retire i s)
unfolding strike L.used L.size
retire_apart i s Buy = record { used_is = refl; size_is = refl; rows_are = λ j k l q. refl; map_is = λ j l. refl }
retire_apart i s Sell = record { used_is = refl; size_is = refl; rows_are = λ j k l q. refl; map_is = λ j l. refl }

append_apart : (n : ℕ) (o : Live) (s : Store) (z : Side) → Untouched z s (append n o s)
unfolding append fill L.used L.size
append_apart n o s Buy = record { used_is = refl; size_is = refl; rows_are = λ j k l q. refl; map_is = λ j l. refl }
append_apart n o s Sell = record { used_is = refl; size_is = refl; rows_are = λ j k l q. refl; map_is = λ j l. refl }

module _ {xs : List ℕ} (s : Stands xs) where
  module _ (i : ℕ) (l : i < word (cell xs) C.order_rows) (g : 0 < cell xs C.orders i C.order_live) {ys : List ℕ} where
    pub change_stands : (v h : ℕ) → Is ys (set_leaves i v h (cell xs)) → Stands ys
    change_stands v h e = orders_stand s _ e (change_apart i v h (cell xs)) (set_leaves_view (cell xs) i s.orders l v h g)

    pub remove_stands : Is ys (retire i (cell xs)) → Stands ys
    remove_stands e = orders_stand s _ e (retire_apart i (cell xs)) (retire_view (cell xs) i s.orders l g)

-- ---- one order more

-- a number above that of the last row is above all
pub below_last : (s : Store) (n : ℕ) → Ordered s → above n (word s C.order_rows) s ≡ true → (j : ℕ) → j < word s C.order_rows → number_at j s < n
below_last s n d = go (word s C.order_rows) (λ i j h l. d.sorted.ascends i j h l)
  where
    go : (r : ℕ) → ((i j : ℕ) → i < j → j < r → number_at i s < number_at j s) → above n r s ≡ true → (j : ℕ) → j < r → number_at j s < n
    go zero a t j l = absurd (not-suc-le-zero l)
    go (suc r) a t j l =
        let h : number_at r s < n = ltb-true (number_at r s) n t in
        ⊎_elim (λ (e : j ≡ r). rw e h) (λ e. omega (arith, h, a j r (omega (arith, e)) (omega arith))) (same? j r)

module _ {xs : List ℕ} (s : Stands xs) where
  room_apart : (z : Side) → Untouched z (cell xs) (make_room (cell xs))
  unfolding L.used L.size
  room_apart Buy =
      record {
        used_is = make_room_other (cell xs) s.orders C.header 0 C.bid_rows (λ e. omega arith) (λ e. omega arith) (λ e. omega arith) (λ _ e. omega arith);
        size_is = make_room_other (cell xs) s.orders C.header 0 C.bid_levels (λ e. omega arith) (λ e. omega arith) (λ e. omega arith) (λ _ e. omega arith);
        rows_are = λ j k l q. make_room_other (cell xs) s.orders C.bids j k (λ e. omega arith) (λ e. omega arith) (λ e. omega arith) (λ e _. omega arith);
        map_is = λ j l. make_room_other (cell xs) s.orders C.bid_map (j / 64) C.map_bits (λ e. omega arith) (λ e. omega arith) (λ e. omega arith) (λ e _. omega arith);
      }
  room_apart Sell =
      record {
        used_is = make_room_other (cell xs) s.orders C.header 0 C.ask_rows (λ e. omega arith) (λ e. omega arith) (λ e. omega arith) (λ _ e. omega arith);
        size_is = make_room_other (cell xs) s.orders C.header 0 C.ask_levels (λ e. omega arith) (λ e. omega arith) (λ e. omega arith) (λ _ e. omega arith);
        rows_are = λ j k l q. make_room_other (cell xs) s.orders C.asks j k (λ e. omega arith) (λ e. omega arith) (λ e. omega arith) (λ e _. omega arith);
        map_is = λ j l. make_room_other (cell xs) s.orders C.ask_map (j / 64) C.map_bits (λ e. omega arith) (λ e. omega arith) (λ e. omega arith) (λ e _. omega arith);
      }

  both_apart : (n : ℕ) (o : Live) (z : Side) → Untouched z (cell xs) (append n o (make_room (cell xs)))
  both_apart n o z =
      let a = append_apart n o (make_room (cell xs)) z in
      let b = room_apart z in
      record {
        used_is = a.used_is ∙ b.used_is;
        size_is = a.size_is ∙ b.size_is;
        rows_are = λ j k l q. a.rows_are j k l q ∙ b.rows_are j k l q;
        map_is = λ j l. a.map_is j l ∙ b.map_is j l;
      }

  pub append_stands : {ys : List ℕ} (n : ℕ) (o : Live) → ((j : ℕ) → j < word (cell xs) C.order_rows → number_at j (cell xs) < n) →
      word (cell xs) C.live_orders + word (cell xs) C.resting_orders < order_room → Is ys (append n o (make_room (cell xs))) → Stands ys
  append_stands n o below few e =
      orders_stand s _ e (both_apart n o)
      (append_view (make_room (cell xs)) n o (make_room_view (cell xs) s.orders).ordered (make_room_room (cell xs) s.orders few)
      (make_room_each (cell xs) s.orders (λ (r : Row). r C.order_number < n) below))

-- ---- the levels of a side change

not_block : (z : Side) {b : ℕ} → b < C.bids → b ≡ L.block z → ⊥
not_block Buy h e = omega arith
not_block Sell h e = omega arith

not_map : (z : Side) {b : ℕ} → b < C.bid_map → b ≡ L.map_block z → ⊥
not_map Buy h e = omega arith
not_map Sell h e = omega arith

order_map_apart : (z : Side) → (C.order_map ≡ L.block z → ⊥) × (C.order_map ≡ L.map_block z → ⊥)
order_map_apart Buy = (λ e. omega arith, λ e. omega arith)
order_map_apart Sell = (λ e. omega arith, λ e. omega arith)

-- a word of the header that counts no levels
abbrev Uncounted : ℕ → Type 0
Uncounted k = (k ≡ C.bid_rows → ⊥) × (k ≡ C.ask_rows → ⊥) × (k ≡ C.bid_levels → ⊥) × (k ≡ C.ask_levels → ⊥)

before : (k : ℕ) → k < C.bid_rows → Uncounted k
before k h = (λ e. omega arith, λ e. omega arith, λ e. omega arith, λ e. omega arith)

amid : (k : ℕ) → C.ask_rows < k → k < C.bid_levels → Uncounted k
amid k g h = (λ e. omega arith, λ e. omega arith, λ e. omega arith, λ e. omega arith)

behind : (k : ℕ) → C.ask_levels < k → Uncounted k
behind k h = (λ e. omega arith, λ e. omega arith, λ e. omega arith, λ e. omega arith)

not_count : (z : Side) {k : ℕ} → Uncounted k → L.Other z C.header k
not_count Buy u = (λ _ e. u.0 e, λ _ e. u.2 e)
not_count Sell u = (λ _ e. u.1 e, λ _ e. u.3 e)

module _ {xs ys : List ℕ} (s : Stands xs) {z : Side} {l : List LRow.Row} (d : L.Did z xs ys l) where
  word_kept : (k : ℕ) → k < 32 → Uncounted k → word (cell ys) k ≡ word (cell xs) k
  word_kept k q u = d.kept C.header 0 k (header_cell k q) (header_not_block z) (not_map z (omega arith)) (not_count z u)

  keeps : Keeps (cell xs) (cell ys)
  keeps =
      record {
        rows_are = word_kept C.order_rows (omega arith) (before C.order_rows (omega arith));
        live_are = word_kept C.live_orders (omega arith) (before C.live_orders (omega arith));
        resting_are = word_kept C.resting_orders (omega arith) (before C.resting_orders (omega arith));
        fee_is = word_kept C.fee (omega arith) (behind C.fee (omega arith));
        cells = λ j k h q. d.kept C.orders j k (order_cell j k (omega (arith, s.orders.bounds.orders_fit)) q) (not_block z (omega arith)) (not_map z (omega arith)) (λ e. absurd (omega arith), λ e. absurd (omega arith));
        map_is = λ j h. d.kept C.order_map j C.map_bits (order_map_cell j C.map_bits h (omega arith)) (order_map_apart z).0 (order_map_apart z).1 (λ e. absurd (omega arith), λ e. absurd (omega arith));
      }

  both : (w : Side) → L.Table w ys
  both = go z d
    where
      go : (z : Side) → L.Did z xs ys l → (w : Side) → L.Table w ys
      go Buy d Buy = d.table
      go Buy d Sell = (asks_stay d (s.levels Sell)).0
      go Sell d Buy = (bids_stay d (s.levels Buy)).0
      go Sell d Sell = d.table

  fits : (k m : ℕ) → k < 32 → Uncounted k → word (cell xs) k ≤ m → word (cell ys) k ≤ m
  fits k m q u h = rw (word_kept k q u) h

  bounds : Bounds (cell ys)
  unfolding L.used
  bounds =
      let b = s.orders.bounds in
      record {
        accounts_fit = fits C.owner_limit _ (omega arith) (before C.owner_limit (omega arith)) b.accounts_fit;
        flights_fit = fits C.flying _ (omega arith) (before C.flying (omega arith)) b.flights_fit;
        batch_fits = fits C.waiting _ (omega arith) (before C.waiting (omega arith)) b.batch_fits;
        orders_fit = fits C.order_rows _ (omega arith) (before C.order_rows (omega arith)) b.orders_fit;
        bids_fit = (both Buy).few;
        asks_fit = (both Sell).few;
        trades_fit = fits C.trade_rows _ (omega arith) (amid C.trade_rows (omega arith) (omega arith)) b.trades_fit;
        notices_fit = fits C.notice_rows _ (omega arith) (amid C.notice_rows (omega arith) (omega arith)) b.notices_fit;
        changed_fit = fits C.changed_rows _ (omega arith) (amid C.changed_rows (omega arith) (omega arith)) b.changed_fit;
      }

  pub levels_stand : Stands ys
  levels_stand = record { holds = d.table.holds; orders = ordered_kept keeps bounds s.orders; levels = both }
