-- What is stored of a level, and the tests that it decides. Assumes nothing.
use Rattle.std.specs.Prelude.{Option, Some, None}
use mathlib.Core.Path.{◌≡◌, refl, sym, ap, ◌∙◌}
use mathlib.Core.Bool.{Bool, true, false, not, ◌&&◌}
use mathlib.Core.Logic.{⊎_elim}
use mathlib.Core.List.{List}
use Prim.Native.Nat.{ℕ, suc, ◌+◌, ◌-◌, ◌^◌, ◌≤◌, ◌<◌}
use native.Mathlib.Omega.{arith}
use borrow.Author.Tests.{eq-eqb, ne_eqb, le-leb, lt-leb, lt-ltb, le-ltb}
use lib.ListN.{length}
use lib.Dec.{eqb, ltb, leb}
use Rattle.le.proofs.Laws.{lt_or_le}
use Rattle.orderbook.specs.declared.Side.{Side}
use Rattle.words.specs.Words.{int, modulus}
use Rattle.table.proofs.Live.{same?}
use Rattle.gateway.specs.Basics.{option}
use Rattle.gateway.specs.Limits.{most_orders, most_levels, most_changed}
use Rattle.gateway.specs.Depth as D
use Rattle.gateway.proofs.Sorted.{look_key}
use Rattle.gateway.proofs.Counted.{levels_best}
use Rattle.gateway.proofs.Levels.{levels_peopled, level_shows}
use Rattle.gateway.proofs.AtPrice.{same_mine, joined_length}
use Rattle.gateway.proofs.Depths.{Few, few_counts, shown_fits}
use Rattle.gateway.proofs.Joins.{joined_there, add_fits, add_few}
use Rattle.store.specs.Cells as C
use Rattle.store.specs.Layout.{cell}
use Rattle.store.specs.View.{word, side, depth}
use Rattle.orders.specs.declared.Resting.{Resting}
use Rattle.orders.specs.Orders.{resting_row, resting_of, number_at}
use Rattle.levels.specs.declared.Row.{Row}
use Rattle.levels.specs.Levels as L
use Rattle.pending.specs.Pending as Pending
use Rattle.sound.proofs.Listed.{size_levels}
use Rattle.marketdata.specs.Marketdata.{replenished, IsLevel}
use Rattle.marketdata.proofs.Events.{Seen}
use Rattle.outcome.specs.Between.{Between}
use Rattle.shows.proofs.Seen.{found_is}

-- a sum of two words is one
below : (q v : ℕ) → v < 2 ^ 64 → leb q (18446744073709551615 - v) ≡ ltb (q + v) modulus
below q v l =
    ⊎_elim (λ (h : q + v < modulus). le-leb q (18446744073709551615 - v) (omega arith) ∙ sym (lt-ltb (q + v) modulus h))
    (λ h. lt-leb q (18446744073709551615 - v) (omega arith) ∙ sym (le-ltb (q + v) modulus h)) (lt_or_le (q + v) modulus)

-- ---- code 7 for an order that shows its next part

module _ {xs : List ℕ} (b : Between xs) (n : ℕ) (r : Option ℕ) (seen : Seen xs n r) where
  abbrev before : D.Depth
  before = depth (cell xs)

  module _ (i : ℕ) (e : r ≡ Some i) (o : Resting) (o_is : o ≡ resting_row (cell xs C.orders i)) (l : Row) (l_is : IsLevel (side o.side) (int o.price) before l) where
    abbrev mine : D.Resting
    mine = resting_of (number_at i (cell xs)) o

    found : D.find_resting n before.resting ≡ Some mine
    found = found_is xs n r seen i e o o_is

    there : D.find_resting mine.number before.resting ≡ Some mine
    there = ap (λ k. D.find_resting k before.resting) (look_key D.resting_number n mine before.resting found) ∙ found

    -- its level shows it
    pub level_over : o.visible ≤ l.qty
    level_over = omega (arith, (level_shows mine.side mine before.resting b.ok.rest_is.feed.ascending there (same_mine mine.side)).0, l_is.qty_is)

    pub reshow_found : (v : ℕ) → v < 2 ^ 64 → leb (l.qty - o.visible) (18446744073709551615 - v) ≡ D.levels_fit (D.where_resting n (replenished v) before).resting
    reshow_found v h =
        below (l.qty - o.visible) v h ∙ ap (λ q. ltb (q - o.visible + v) modulus) l_is.qty_is
        ∙ sym (shown_fits mine before b.ok.rest_is.feed.ascending there b.ok.rest_is.feed.fit v o.leaves)
        ∙ sym (ap (λ x. D.levels_fit (option before (λ o. replenished v o before) x).resting) found)

  pub reshow_none : r ≡ None → (v : ℕ) → true ≡ D.levels_fit (D.where_resting n (replenished v) before).resting
  reshow_none e v =
      let w : Seen xs n None = rw e at seen in
      sym (ap (λ x. D.levels_fit (option before (λ o. replenished v o before) x).resting) w.order ∙ b.ok.rest_is.feed.fit)

-- ---- codes 7 and 5 for an order that comes to rest

module _ {xs : List ℕ} (b : Between xs) (n : ℕ) (o : Resting) where
  abbrev d : D.Depth
  d = depth (cell xs)

  abbrev z : Side
  z = side o.side

  abbrev more : List D.Level
  more = D.joined z (int o.price) o.visible (D.levels z d.resting)

  few : Few d
  few = few_counts d b.ok.rest_is.feed.few

  pub join_fits : (l : Row) → IsLevel (side o.side) (int o.price) d l → o.visible < 2 ^ 64 →
      leb l.qty (18446744073709551615 - o.visible) ≡ D.levels_fit (D.add (resting_of n o) d).resting
  join_fits l l_is h =
      below l.qty o.visible h ∙ ap (λ q. ltb (q + o.visible) modulus) l_is.qty_is ∙ sym (add_fits (resting_of n o) d b.ok.rest_is.feed.fit)

  there_is : 0 < (D.level_in (int o.price) (D.levels z d.resting)).orders → length more ≡ length (D.levels z d.resting)
  there_is h = joined_there z (int o.price) o.visible (D.levels z d.resting) (levels_best z d.resting) h

  new_is : (D.level_in (int o.price) (D.levels z d.resting)).orders ≡ 0 → length more ≡ suc (length (D.levels z d.resting))
  new_is h = joined_length z (int o.price) o.visible (D.levels z d.resting) (levels_peopled z d.resting) h

  -- the levels of its side are counted
  module _ (w : Side) (w_is : w ≡ side o.side) (k : ℕ) (k_is : k ≡ L.size w (cell xs)) where
    levels_are : k ≡ length (D.levels z d.resting)
    levels_are = k_is ∙ ap (λ (y : Side). L.size y (cell xs)) w_is ∙ size_levels b.state.sound z

    pub side_roomy : k < most_levels → true ≡ leb (length (D.joined (side o.side) (int o.price) o.visible (D.levels (side o.side) d.resting))) most_levels
    side_roomy h =
        ⊎_elim (λ q. sym (le-leb (length more) most_levels (omega (arith, there_is q, levels_are))))
        (λ q. sym (le-leb (length more) most_levels (omega (arith, new_is (omega (arith, q)), levels_are))))
        (lt_or_le 0 (D.level_in (int o.price) (D.levels z d.resting)).orders)

    pub side_full : most_levels ≤ k → (l : Row) → IsLevel (side o.side) (int o.price) d l →
        not (eqb l.orders 0) ≡ leb (length (D.joined (side o.side) (int o.price) o.visible (D.levels (side o.side) d.resting))) most_levels
    side_full h l l_is =
        ⊎_elim
        (λ (q : l.orders ≡ 0). ap not (eq-eqb l.orders 0 q) ∙ sym (lt-leb (length more) most_levels (omega (arith, new_is (sym l_is.orders_is ∙ q), levels_are))))
        (λ q. ap not (ne_eqb l.orders 0 q) ∙ sym (le-leb (length more) most_levels (omega (arith, there_is (omega (arith, q, l_is.orders_is)), few.sides z))))
        (same? l.orders 0)

  module _ (k : ℕ) (k_is : k ≡ word (cell xs) C.resting_orders) where
    count_is : length d.resting ≡ k
    count_is = sym b.state.sound.tables.ordered.counted.resting_count ∙ sym k_is

    abbrev Room : Bool → Type 0
    Room t = t ≡ D.depth_few (D.add (resting_of n o) d)

    parts : (s t u : Bool) → leb (suc (length d.resting)) most_orders ≡ s → leb (length more) most_levels ≡ t →
        leb (length (D.remember (Pending.key o.side o.price) d.changed)) most_changed ≡ u → Room (s && (t && u))
    parts s t u p q r = sym (add_few (resting_of n o) d few ∙ (λ i. p i && (q i && r i)))

    pub no_order_room : most_orders ≤ k → Room false
    no_order_room h = parts false _ _ (lt-leb (suc (length d.resting)) most_orders (omega (arith, count_is))) refl refl

    module _ (h : k < most_orders) (t : Bool) (t_is : t ≡ leb (length (D.joined (side o.side) (int o.price) o.visible (D.levels (side o.side) d.resting))) most_levels) where
      fine : leb (suc (length d.resting)) most_orders ≡ true
      fine = le-leb (suc (length d.resting)) most_orders (omega (arith, count_is))

      pub no_side_room : t ≡ false → Room false
      no_side_room e = parts true false _ fine (sym t_is ∙ e) refl

      pub changed_room : t ≡ true → (u : Bool) → u ≡ leb (length (D.remember (Pending.key o.side o.price) d.changed)) most_changed → Room u
      changed_room e u u_is = parts true true u fine (sym t_is ∙ e) (sym u_is)

pub ruleset stored = (level_over, reshow_found, reshow_none, join_fits, side_roomy, side_full, no_order_room, no_side_room, changed_room, arith)
