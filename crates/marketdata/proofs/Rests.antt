-- An order comes to rest in a row of the table: its level and its row follow, and the state stays sound. Assumes nothing.
use Rattle.std.specs.Prelude.{Option, Some, None}
use mathlib.Core.Path.{◌≡◌, refl, sym, ap, ap₂, subst, ◌∙◌}
use mathlib.Core.Bool.{cond}
use mathlib.Core.List.{List}
use Prim.Native.Nat.{ℕ, ◌≤◌, ◌<◌}
use native.Mathlib.Omega.{arith}
use lib.ListN.{length}
use Rattle.orderbook.specs.declared.Side.{Side}
use Rattle.words.specs.Words.{int, modulus}
use Rattle.table.specs.Live.{look, insert}
use Rattle.gateway.specs.Limits.{most_orders, most_levels}
use Rattle.gateway.specs.Depth as D
use Rattle.gateway.proofs.Counted.{levels_best}
use Rattle.gateway.proofs.Levels.{levels_peopled, levels_insert}
use Rattle.store.specs.Cells as C
use Rattle.store.specs.Layout.{cell}
use Rattle.store.specs.View.{Is, word, fill, ledger, depth, gateway, order_room}
use Rattle.orders.specs.declared.Resting.{Resting}
use Rattle.orders.specs.Orders.{rest}
use Rattle.orders.proofs.Views.{Did, rest_touched, rest_view}
use Rattle.levels.specs.declared.Row as LRow
use Rattle.levels.specs.Levels.{size, entries, price, added, CanAdd}
use Rattle.levels.specs.Levels as L
use Rattle.levels.proofs.Best.{level_of}
use Rattle.levels.proofs.Depth.{add_view}
use Rattle.sound.specs.Sound.{State, Becomes}
use Rattle.marketdata.specs.Marketdata.{with_depth, with_resting, Judged}
use Rattle.orders.specs.Orders.{resting_of}
use Rattle.gateway.proofs.AtPrice.{same_mine, level_fits, joined_at, joined_length, levels_orders, few_levels, few_parts}
use Rattle.marketdata.proofs.Steps.{beyond_same, Follows, Beyond, side_levels, levels_step, rows_touched}
use Rattle.sound.proofs.Listed.{side_table, size_levels}
use Rattle.marketdata.proofs.Resting.{list_kept, inside_kept, cell_kept, row_done, level_stored, other_side}

module _ {xs : List ℕ} (s : State xs) (n : ℕ) (o : Resting) (judged : Judged (D.add (resting_of n o) (depth (cell xs)))) (k : ℕ) (e : int o.price ≡ price k) where
  abbrev r : D.Resting
  r = resting_of n o

  abbrev os : List D.Resting
  os = (depth (cell xs)).resting

  abbrev z : Side
  z = r.side

  abbrev more : List D.Resting
  more = insert D.resting_number r os

  abbrev found : Option LRow.Row
  found = look L.key k (entries z (cell xs))

  fits : (D.level_in r.price (D.levels z more)).qty < modulus
  unfolding D.add
  fits = level_fits z r.price more judged.fits

  few : (length more ≤ most_orders) × (length (D.levels z more) ≤ most_levels)
  unfolding D.add
  few = let t = few_parts (D.add r (depth (cell xs))) judged.few in (t.0, few_levels z more t.1)

  joins_levels : D.levels z more ≡ D.joined z r.price r.visible (D.levels z os)
  joins_levels = levels_insert z r os ∙ ap (λ b. cond b (D.joined z r.price r.visible (D.levels z os)) (D.levels z os)) (same_mine z)

  level_is : D.level_in r.price (D.levels z os) ≡ level_of k found
  level_is = ap (λ p. D.level_in p (D.levels z os)) e ∙ level_stored s z k

  -- no more orders than the table may have
  orders_few : length os ≤ most_orders
  orders_few = omega (arith, s.sound.tables.ordered.counted.resting_count, s.sound.tables.resting_few)

  -- there is room for a level, or its level stays in range
  pub add_can : CanAdd (size z (cell xs)) r.visible found
  add_can = go found level_is
    where
      go : (x : Option LRow.Row) → D.level_in r.price (D.levels z os) ≡ level_of k x → CanAdd (size z (cell xs)) r.visible x
      go None q =
          omega (
            arith,
            few.1,
            ap length joins_levels,
            joined_length z r.price r.visible (D.levels z os) (levels_peopled z os) (ap (λ y. y.orders) q),
            size_levels s.sound z,
          )
      go (Some x) q = (
        omega (
          arith,
          fits,
          ap (λ ls. (D.level_in r.price ls).qty) joins_levels,
          joined_at z r.price r.visible (D.levels z os) (levels_best z os),
          ap (λ y. y.qty) q,
        ),
        omega (arith, levels_orders z r.price os, ap (λ y. y.orders) q, orders_few),
      )

  module _ {ys : List ℕ} (d : L.Did z xs ys (added k r.visible (entries z (cell xs)))) where
    follows : Follows more (cell ys)
    follows =
        levels_step z d s more (add_view z k r os (side_table s z) (side_levels s.sound.tables z).are (same_mine z) e d)
        (other_side r os more (λ w. D.joined w r.price r.visible) (λ w. levels_insert w r os))

    module _ (i : ℕ) (inside : i < word (cell xs) C.order_rows) (number_is : cell xs C.orders i C.order_number ≡ n) (free : cell xs C.orders i C.order_resting ≡ 0) where
      pub rest_can : (i < order_room) × (word (cell ys) C.resting_orders < order_room)
      rest_can = (omega (arith, inside_kept s z d i inside, follows.ordered.bounds.orders_fit), omega (arith, follows.resting_few))

      module _ (l : ℕ) where
        does : Did (cell ys) (rest i o l (cell ys)) (ledger (cell ys)).orders more
        does =
            subst (λ rs. Did (cell ys) (rest i o l (cell ys)) (ledger (cell ys)).orders rs)
            (ap₂ (λ (m : ℕ) (rs : List D.Resting). insert D.resting_number (resting_of m o) rs) (cell_kept s z d i inside C.order_number (omega arith) ∙ number_is) (list_kept s z d))
            (rest_view (cell ys) i follows.ordered (inside_kept s z d i inside) o l (cell_kept s z d i inside C.order_resting (omega arith) ∙ free))

        beyond : Beyond (cell ys) (rest i o l (cell ys))
        unfolding rest fill
        beyond = beyond_same (cell ys) (rest i o l (cell ys)) refl

        rows_are : word (rest i o l (cell ys)) C.order_rows ≡ word (cell ys) C.order_rows
        unfolding rest fill
        rows_are = refl

        -- as many as the list has
        count_few : word (rest i o l (cell ys)) C.resting_orders ≤ most_orders
        count_few = omega (arith, does.ordered.counted.resting_count, ap (λ g. length g.rest.depth.resting) does.view, few.0)

        pub rest_done : {zs : List ℕ} → Is zs (rest i o l (cell ys)) → Becomes zs (with_depth (with_resting (insert D.resting_number r)) (gateway (cell xs)))
        rest_done h =
            let t = rest_touched (cell ys) i follows.ordered (inside_kept s z d i inside) o l in
            row_done s z d (rest i o l (cell ys)) h follows does beyond (rows_touched i _ t refl rows_are beyond follows) count_few
