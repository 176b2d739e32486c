-- A resting order goes, or shows something else: its level and its row follow, and the state stays sound. Assumes nothing.
use Rattle.std.specs.Prelude.{Option, Some, None}
use mathlib.Core.Path.{◌≡◌, refl, sym, ap, ap₂, subst, ◌∙◌}
use mathlib.Core.Logic.{⊎_elim}
use mathlib.Core.Bool.{false, cond}
use mathlib.Core.List.{List}
use Prim.Native.Nat.{ℕ, ◌-◌, ◌≤◌, ◌<◌}
use native.Mathlib.Omega.{arith}
use Rattle.orderbook.specs.declared.Side.{Side}
use Rattle.le.proofs.Laws.{lt_or_le}
use Rattle.table.specs.Live.{look, without, replace}
use Rattle.gateway.specs.Limits.{most_orders}
use Rattle.gateway.specs.Ledger.{same_side}
use Rattle.gateway.specs.Depth as D
use Rattle.gateway.proofs.Levels.{parted, reshown, on, levels_without, levels_replace, level_shows}
use Rattle.store.specs.Cells as C
use Rattle.store.specs.Layout.{cell}
use Rattle.store.specs.View.{Row, Store, Is, word, fill, side, resting, ledger, depth, gateway, order_room}
use Rattle.orders.specs.declared.Resting.{Resting}
use Rattle.orders.specs.Orders.{Ordered, Stays, strike}
use Rattle.orders.specs.Orders as Orders
use Rattle.orders.proofs.Views.{Did, with_lists, resting_rises, resting_at, resting_some, take_off_touched, take_off_view, show_touched, show_view}
use Rattle.orders.proofs.Kept.{stays_then, stays_touched, stays_keeps, stays_bytes}
use Rattle.levels.specs.declared.Row as LRow
use Rattle.levels.specs.Levels.{entries, price, removed, shown, Table, CanRemove, CanShow}
use Rattle.levels.specs.Levels as L
use Rattle.levels.proofs.Best.{level_of, level_found}
use Rattle.levels.proofs.Depth as Levels
use Rattle.levels.proofs.Depth.{entries_rise}
use Rattle.levels.proofs.Views.{levels_view}
use Rattle.sound.specs.Sound.{State, Becomes, InPlace}
use Rattle.sound.proofs.Kept.{becomes}
use Rattle.marketdata.specs.Marketdata.{with_depth, with_resting}
use Rattle.gateway.proofs.AtPrice.{same_mine, reshown_at}
use Rattle.marketdata.proofs.Steps.{beyond_same, Follows, Beyond, Rows, side_levels, keeps, levels_step, rows_touched, orders_step}
use Rattle.sound.proofs.Listed.{side_table}
use Rattle.gateway.specs.Table.{Rises}
use Rattle.words.specs.Words.{modulus}

-- ---- after the levels, the row

module _ {xs : List ℕ} (s : State xs) (z : Side) {ys : List ℕ} {l : List LRow.Row} (d : L.Did z xs ys l) where
  pub view_kept : gateway (cell ys) ≡ gateway (cell xs)
  view_kept = levels_view z d s.sound.tables.ordered.bounds

  pub list_kept : (depth (cell ys)).resting ≡ (depth (cell xs)).resting
  list_kept = ap (λ g. g.rest.depth.resting) view_kept

  module _ (i : ℕ) (inside : i < word (cell xs) C.order_rows) where
    pub inside_kept : i < word (cell ys) C.order_rows
    inside_kept = rw (keeps z d s).rows_are inside

    pub cell_kept : (c : ℕ) → c < 16 → cell ys C.orders i c ≡ cell xs C.orders i c
    cell_kept c h = (keeps z d s).cells i c inside h

  pub row_done : {zs : List ℕ} {rs : List D.Resting} (t : Store) → Is zs t → Follows rs (cell ys) → Did (cell ys) t (ledger (cell ys)).orders rs → Beyond (cell ys) t → Rows t →
      word t C.resting_orders ≤ most_orders → Becomes zs (with_depth (with_resting (λ _. rs)) (gateway (cell xs)))
  row_done {rs = rs} t h f e b r few =
      becomes h (orders_step f e b r few) (e.view ∙ ap (λ g. with_lists g.core.ledger.orders rs g) view_kept)

  -- no row moves
  row_stays : {zs : List ℕ} {t : Store} → Is zs t → Stays (cell ys) t → Stays (cell xs) (cell zs)
  row_stays h e = stays_bytes s.sound.tables.ordered.bounds (stays_then (stays_keeps (keeps z d s)) e) h

-- what is stored of a level
pub level_stored : {xs : List ℕ} → State xs → (z : Side) (k : ℕ) → D.level_in (price k) (D.levels z (depth (cell xs)).resting) ≡ level_of k (look L.key k (entries z (cell xs)))
level_stored {xs} s z k = ap (D.level_in (price k)) (sym (side_levels s.sound.tables z).are) ∙ level_found z k 0 (entries z (cell xs)) (entries_rise z (side_table s z))

-- the levels of the other side stay
pub other_side : (r : D.Resting) (os rs : List D.Resting) (f : Side → List D.Level → List D.Level) → ((w : Side) → D.levels w rs ≡ on w r (f w) (D.levels w os)) →
    (w : Side) → same_side w r.side ≡ false → D.levels w rs ≡ D.levels w os
other_side r os rs f h w e = h w ∙ ap (λ b. cond b (f w (D.levels w os)) (D.levels w os)) e

-- ---- a resting order

module _ {xs : List ℕ} (s : State xs) (i : ℕ) (inside : i < word (cell xs) C.order_rows) (rests : 0 < cell xs C.orders i C.order_resting) where
  abbrev r : D.Resting
  r = resting (cell xs C.orders i)

  abbrev os : List D.Resting
  os = (depth (cell xs)).resting

  abbrev z : Side
  z = r.side

  ordered : Ordered (cell xs)
  ordered = s.sound.tables.ordered

  asc : Rises D.resting_number 0 os
  asc = resting_rises (cell xs) ordered.sorted

  there : look D.resting_number r.number os ≡ Some r
  there = resting_at (cell xs) i ordered inside rests

  module _ (k : ℕ) (e : r.price ≡ price k) where
    abbrev found : Option LRow.Row
    found = look L.key k (entries z (cell xs))

    table : Table z xs
    table = side_table s z

    level_is : D.level_in r.price (D.levels z os) ≡ level_of k found
    level_is = ap (λ p. D.level_in p (D.levels z os)) e ∙ level_stored s z k

    -- its level is stored, shows it and counts it
    pub level_can : CanRemove r.visible found
    level_can = go found (let h = level_shows z r os asc there (same_mine z) in rw level_is at h)
      where
        go : (x : Option LRow.Row) → (r.visible ≤ (level_of k x).qty) × (0 < (level_of k x).orders) → CanRemove r.visible x
        go None h = omega (arith, h.1)
        go (Some x) h = h

    level_row : (x : LRow.Row) × (found ≡ Some x)
    level_row = go found refl level_can
      where
        go : (y : Option LRow.Row) → found ≡ y → CanRemove r.visible y → (x : LRow.Row) × (found ≡ Some x)
        go None q h = absurd h
        go (Some x) q h = (x, q)

    -- what its row is after its level has changed
    module _ {ys : List ℕ} {l : List LRow.Row} (d : L.Did z xs ys l) where
      rests_kept : 0 < cell ys C.orders i C.order_resting
      rests_kept = rw (cell_kept s z d i inside C.order_resting (omega arith)) rests

      resting_kept : resting (cell ys C.orders i) ≡ r
      resting_kept =
          rw (cell_kept s z d i inside C.order_number (omega arith), cell_kept s z d i inside C.order_rest_side (omega arith), cell_kept s z d i inside C.order_rest_price (omega arith), cell_kept s z d i inside C.order_visible (omega arith), cell_kept s z d i inside C.order_rest_leaves (omega arith))
          refl

    -- ---- it goes

    module _ {ys : List ℕ} (d : L.Did z xs ys (removed k r.visible (entries z (cell xs)))) where
      gone_next : Follows (without D.resting_number r.number os) (cell ys)
      gone_next =
          let (x, q) = level_row in
          levels_step z d s (without D.resting_number r.number os) (Levels.remove_view z k r os table (side_levels s.sound.tables z).are (same_mine z) e asc there x q d)
          (other_side r os (without D.resting_number r.number os) (λ w. parted r.price r.visible) (λ w. levels_without w r os asc there))

      pub gone_can : (i < order_room) × (0 < word (cell ys) C.resting_orders) × (cell ys C.orders i C.order_live ≤ 1)
      gone_can =
          let o = gone_next.ordered in
          (omega (arith, inside_kept s z d i inside, o.bounds.orders_fit), resting_some (cell ys) i o (inside_kept s z d i inside) (rests_kept d), (o.sorted.flags i (inside_kept s z d i inside)).live_is)

      gone_view : Did (cell ys) (Orders.take_off i (cell ys)) (ledger (cell ys)).orders (without D.resting_number r.number os)
      gone_view =
          subst (λ rs. Did (cell ys) (Orders.take_off i (cell ys)) (ledger (cell ys)).orders rs)
          (ap₂ (λ (x : D.Resting) (l : List D.Resting). without D.resting_number x.number l) (resting_kept d) (list_kept s z d))
          (take_off_view (cell ys) i gone_next.ordered (inside_kept s z d i inside) (rests_kept d))

      gone_beyond : Beyond (cell ys) (Orders.take_off i (cell ys))
      unfolding strike
      gone_beyond = beyond_same (cell ys) (Orders.take_off i (cell ys)) refl

      gone_words : (word (Orders.take_off i (cell ys)) C.order_rows ≡ word (cell ys) C.order_rows) × (word (Orders.take_off i (cell ys)) C.resting_orders ≤ word (cell ys) C.resting_orders)
      unfolding strike
      gone_words = (refl, omega arith)

      pub gone_done : {zs : List ℕ} → Is zs (Orders.take_off i (cell ys)) → InPlace xs zs (with_depth (with_resting (without D.resting_number r.number)) (gateway (cell xs)))
      gone_done h =
          let t = take_off_touched (cell ys) i gone_next.ordered (inside_kept s z d i inside) in
          record {
            becomes =
                row_done s z d (Orders.take_off i (cell ys)) h gone_next gone_view gone_beyond (rows_touched i _ t refl gone_words.0 gone_beyond gone_next) (omega (arith, gone_words.1, gone_next.resting_few));
            stays = row_stays s z d h (stays_touched t gone_words.0 refl);
          }

    -- ---- it shows w, and v are left of it

    module _ (w v : ℕ) where
      abbrev r' : D.Resting
      r' = D.showing w v r

      abbrev showed : List D.Resting
      showed = replace D.resting_number r' os

      showed_levels : (y : Side) → D.levels y showed ≡ on y r (reshown r.price r.visible w) (D.levels y os)
      showed_levels y = levels_replace y r os asc there r' refl refl refl

      -- its level stays in range
      pub show_can : (r.visible < w → (D.level_in r.price (D.levels z showed)).qty < modulus) → CanShow r.visible w found
      show_can h = go found level_is level_can
        where
          go : (x : Option LRow.Row) → D.level_in r.price (D.levels z os) ≡ level_of k x → CanRemove r.visible x → CanShow r.visible w x
          go None q c = c
          go (Some x) q c = (
            c.0,
            λ b. ⊎_elim
                (λ (m : r.visible < w).
                let t = ap (D.level_in r.price) (showed_levels z ∙ ap (λ y. cond y (reshown r.price r.visible w (D.levels z os)) (D.levels z os)) (same_mine z)) in
                let u = reshown_at r.price r.visible w (D.levels z os) (rw q c.1) in
                omega (arith, h m, ap (λ y. y.qty) t, u, ap (λ y. y.qty) q))
                (λ m. omega (arith, c.0))
                (lt_or_le r.visible w),
          )

      module _ {ys : List ℕ} (d : L.Did z xs ys (shown k r.visible w (entries z (cell xs)))) where
        showed_next : Follows showed (cell ys)
        showed_next =
            let (x, q) = level_row in
            levels_step z d s showed (Levels.show_view z k r os table (side_levels s.sound.tables z).are (same_mine z) e asc there x q r' refl refl refl d)
            (other_side r os showed (λ y. reshown r.price r.visible w) showed_levels)

        pub showed_can : i < order_room
        showed_can = omega (arith, inside_kept s z d i inside, showed_next.ordered.bounds.orders_fit)

        showed_view : Did (cell ys) (Orders.show i w v (cell ys)) (ledger (cell ys)).orders showed
        showed_view =
            subst (λ rs. Did (cell ys) (Orders.show i w v (cell ys)) (ledger (cell ys)).orders rs)
            (ap₂ (λ (x : D.Resting) (l : List D.Resting). replace D.resting_number (D.showing w v x) l) (resting_kept d) (list_kept s z d))
            (show_view (cell ys) i showed_next.ordered (inside_kept s z d i inside) w v (rests_kept d))

        showed_beyond : Beyond (cell ys) (Orders.show i w v (cell ys))
        unfolding fill
        showed_beyond = beyond_same (cell ys) (Orders.show i w v (cell ys)) refl

        pub showed_done : {zs : List ℕ} → Is zs (Orders.show i w v (cell ys)) → InPlace xs zs (with_depth (with_resting (replace D.resting_number r')) (gateway (cell xs)))
        unfolding fill
        showed_done h =
            let t = show_touched (cell ys) i showed_next.ordered (inside_kept s z d i inside) w v in
            record {
              becomes = row_done s z d (Orders.show i w v (cell ys)) h showed_next showed_view showed_beyond (rows_touched i _ t refl refl showed_beyond showed_next) showed_next.resting_few;
              stays = row_stays s z d h (stays_touched t refl refl);
            }
