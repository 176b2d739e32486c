-- What the calls of orders answer, from what the functions below them ensure. Assumes nothing.
use Rattle.std.specs.Prelude.{Option, Some, None}
use mathlib.Core.Path.{◌≡◌, refl, sym, ap, ◌∙◌}
use mathlib.Core.Bool.{Bool, true, false}
use mathlib.Core.List.{List}
use mathlib.Core.Logic.{⊎_elim}
use Rattle.le.proofs.Laws.{lt_or_le}
use Prim.Native.Nat.{ℕ, suc, ◌+◌, ◌-◌, ◌≤◌, ◌<◌}
use native.Mathlib.Numerals.{add-one}
use native.Mathlib.Omega.{arith}
use borrow.Author.Rules.{rules}
use borrow.Author.Tests.{lt-ltb, le-ltb, ltb-true}
use lib.Dec.{ltb}
use lib.ListN.{length}
use Rattle.table.specs.Live.{look}
use Rattle.gateway.specs.Basics.{option}
use Rattle.gateway.specs.Ledger.{number_of}
use Rattle.store.specs.Cells as C
use Rattle.store.specs.Layout.{cell}
use Rattle.store.specs.View.{Store, word, order, ledger, order_room, Is}
use Rattle.store.proofs.Places.{header_cell}
use Rattle.store.proofs.Rows.{is_itself}
use Rattle.orders.specs.declared.Live.{Live}
use Rattle.orders.specs.Orders.{Sees, live_row, set_leaves, retire, append, make_room, number_at}
use Rattle.orders.proofs.Laws.{then_append}
use Rattle.orders.proofs.Views.{live_some}
use Rattle.orders.proofs.Room.{make_room_view, make_room_room}
use Rattle.maps.specs.Tables.{Stands, Lent, above, room, append_code, Ends, Done}
use Rattle.maps.proofs.Stands.{stands_ready, change_stands, remove_stands, below_last, append_stands}
use Rattle.maps.proofs.Entering.{does, refuses, zero_then}

-- ---- a live order

abbrev Live_at : List ℕ → ℕ → Option ℕ → Type 0
Live_at xs n f = Sees C.order_live order number_of (cell xs) n f

module _ (xs : List ℕ) (n : ℕ) (f : Option ℕ) (i : ℕ) (s : Live_at xs n f) (e : f ≡ Some i) where
  at_i : Live_at xs n (Some i)
  at_i = rw e at s

  pub row_inside : Stands xs → i < order_room
  row_inside r = omega (arith, at_i.row.0, r.orders.bounds.orders_fit)

  pub some_live : Stands xs → 0 < word (cell xs) C.live_orders
  some_live r = live_some (cell xs) i r.orders at_i.row.0 at_i.row.2

  pub flag_small : Stands xs → cell xs C.orders i C.order_resting ≤ 1
  flag_small r = (r.orders.sorted.flags i at_i.row.0).resting_is

  pub leaves_is : (l : Live) → l ≡ live_row (cell xs C.orders i) → l.leaves ≡ option 0 (λ o. o.leaves) (look number_of n (ledger (cell xs)).orders)
  leaves_is l q = rw at_i.order (ap (λ (x : Live). x.leaves) q)

  pub changed_at : {ys : List ℕ} (v h : ℕ) → Stands xs → Is ys (set_leaves i v h (cell xs)) → Done (λ j. set_leaves j v h) xs ys n (i + 1) × Lent ys
  changed_at v h r q = (rw (add-one i) (record { sees = at_i; is = q }), record { stands = λ _. change_stands r i at_i.row.0 at_i.row.2 v h q })

  pub removed_at : {ys : List ℕ} → Stands xs → Is ys (retire i (cell xs)) → Done retire xs ys n (i + 1) × Lent ys
  removed_at r q = (rw (add-one i) (record { sees = at_i; is = q }), record { stands = λ _. remove_stands r i at_i.row.0 at_i.row.2 q })

module _ (xs : List ℕ) (n : ℕ) (f : Option ℕ) (s : Live_at xs n f) (e : f ≡ None) where
  at_none : Live_at xs n None
  at_none = rw e at s

  pub leaves_none : 0 ≡ option 0 (λ o. o.leaves) (look number_of n (ledger (cell xs)).orders)
  leaves_none = rw at_none.order refl

  pub done_none : (g : ℕ → Store → Store) → Stands xs → Done g xs xs n 0 × Lent xs
  done_none g r = (record { sees = at_none; is = is_itself r.holds }, record { stands = λ _. r })

-- ---- one order more

module _ (xs : List ℕ) (n : ℕ) where
  pub above_last : {r g : ℕ} → r ≡ word (cell xs) C.order_rows → 0 < r → g ≡ number_at (r - 1) (cell xs) → ltb g n ≡ above n (word (cell xs) C.order_rows) (cell xs)
  above_last {r} {g} e h t = let q : word (cell xs) C.order_rows ≡ suc (r - 1) = omega (arith, e) in rw q (ap (λ y. ltb y n) t)

  pub above_none : {r : ℕ} → r ≡ word (cell xs) C.order_rows → r ≤ 0 → true ≡ above n (word (cell xs) C.order_rows) (cell xs)
  above_none {r} e h = let q : word (cell xs) C.order_rows ≡ 0 = omega (arith, e, h) in rw q refl

  module _ {a : Bool} (e : a ≡ above n (word (cell xs) C.order_rows) (cell xs)) where
    pub code_low : a ≡ false → 4 ≡ append_code n (cell xs)
    unfolding append_code
    code_low t = rw (sym e ∙ t) refl

    module _ {b : Bool} (f : b ≡ room (cell xs)) (t : a ≡ true) where
      pub code_full : b ≡ false → 5 ≡ append_code n (cell xs)
      unfolding append_code
      code_full q = rw (sym e ∙ t, sym f ∙ q) refl

      pub code_none : b ≡ true → 0 ≡ append_code n (cell xs)
      unfolding append_code
      code_none q = rw (sym e ∙ t, sym f ∙ q) refl

module _ (xs : List ℕ) {l : ℕ} (e : l ≡ word (cell xs) C.live_orders) where
  pub room_left : {r : ℕ} → r ≡ word (cell xs) C.resting_orders → l < order_room → ltb r (order_room - l) ≡ room (cell xs)
  unfolding room
  room_left {r} f h =
      ⊎_elim
      (λ (q : r < order_room - l). lt-ltb r (order_room - l) q ∙ sym (lt-ltb (word (cell xs) C.live_orders + word (cell xs) C.resting_orders) order_room (omega (arith, e, f))))
      (λ q. le-ltb r (order_room - l) q ∙ sym (le-ltb (word (cell xs) C.live_orders + word (cell xs) C.resting_orders) order_room (omega (arith, e, f))))
      (lt_or_le r (order_room - l))

  pub room_none : order_room ≤ l → false ≡ room (cell xs)
  unfolding room
  room_none h = sym (le-ltb (word (cell xs) C.live_orders + word (cell xs) C.resting_orders) order_room (omega (arith, e)))

module _ {xs : List ℕ} (s : Stands xs) (n : ℕ) {c : ℕ} (e : c ≡ append_code n (cell xs)) (z : c ≡ 0) where
  tests : (above n (word (cell xs) C.order_rows) (cell xs) ≡ true) × (word (cell xs) C.live_orders + word (cell xs) C.resting_orders < order_room)
  unfolding append_code room
  tests =
      let t = zero_then (above n (word (cell xs) C.order_rows) (cell xs)) _ 3 (sym e ∙ z) in
      (t.0, ltb-true (word (cell xs) C.live_orders + word (cell xs) C.resting_orders) order_room (zero_then (room (cell xs)) 0 4 t.1).0)

  module _ {mid : List ℕ} (h : Is mid (make_room (cell xs))) where
    pub room_made : word (cell mid) C.order_rows < order_room
    room_made = rw (h.same C.header 0 C.order_rows (header_cell C.order_rows (omega arith))) (make_room_room (cell xs) s.orders tests.1)

    pub live_fits : word (cell mid) C.live_orders < order_room
    live_fits =
        let d = make_room_view (cell xs) s.orders in
        let q = d.ordered.counted.live_count ∙ ap (λ g. length g.core.ledger.orders) d.view ∙ sym s.orders.counted.live_count in
        rw (h.same C.header 0 C.live_orders (header_cell C.live_orders (omega arith)) ∙ q) (omega (arith, tests.1))

    pub appended : {ys : List ℕ} (o : Live) → Is ys (append n o (cell mid)) → Ends (append_code n (cell xs)) (Is ys (append n o (make_room (cell xs)))) (ys ≡ xs) c ys
    appended o q =
        let is_made = then_append n o room_made h q in
        does (append_code n (cell xs)) e z is_made (append_stands s n o (below_last (cell xs) n s.orders tests.0) tests.1 is_made)

pub ruleset of_orders = (rules, refuses, row_inside, some_live, flag_small, leaves_is, leaves_none, above_last, above_none, code_low, code_full, code_none, room_left, room_none, room_made, live_fits, appended, stands_ready)
