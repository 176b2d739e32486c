-- The old depth goes: the bytes, the gateway that they hold, and the state's soundness. Assumes nothing.
use mathlib.Core.Path.{◌≡◌, refl, sym, ap, ap₂, subst, ◌∙◌}
use mathlib.Core.Logic.{⊎_elim}
use mathlib.Core.Bool.{cond}
use mathlib.Core.List.{List, [], ◌∷◌}
use Prim.Native.Nat.{ℕ, zero, suc, ◌+◌, ◌≤◌, ◌<◌}
use native.Mathlib.Nat.{not-suc-le-zero}
use native.Mathlib.Numerals.{add-one}
use native.Mathlib.Omega.{arith}
use borrow.Author.Tests.{eq-eqb, ne_eqb, lt-ltb, le-ltb}
use lib.Dec.{eqb, ltb}
use lib.ListN.{length}
use Rattle.orderbook.specs.declared.Side.TheVariants.{Buy, Sell}
use Rattle.le.proofs.Laws.{lt_or_le}
use Rattle.words.specs.Words.{wrap}
use Rattle.table.specs.Live.{live}
use Rattle.table.proofs.Live.{same?, ascends_ext}
use Rattle.gateway.specs.Limits.{most_levels}
use Rattle.gateway.specs.Ledger.{Order, held, open_of}
use Rattle.gateway.specs.Depth as D
use Rattle.gateway.specs.Calls.{Gateway, finished}
use Rattle.store.specs.Cells as C
use Rattle.store.specs.Layout.{cell, Holds, Set}
use Rattle.store.specs.View.{Row, Store, Same, Is, Bounds, word, write, fill, listed, order, resting, ledger, depth, gateway, order_room}
use Rattle.store.proofs.Places.{order_cell}
use Rattle.store.proofs.Rows.{same_write, then_set, then_fill, is_itself}
use Rattle.orders.specs.Orders.{either, Flags, remap}
use Rattle.orders.proofs.Bits.{remapped}
use Rattle.orders.proofs.Laws.{same_remap, then_remap}
use Rattle.orders.proofs.Shown.{shown, shown_ext, shown_dead}
use Rattle.orders.proofs.Views.{with_lists}
use Rattle.bitmap.specs.Bitmap.{emptied}
use Rattle.bitmap.proofs.Laws.{same_bit, same_emptied, then_emptied, emptied_bit, emptied_other}
use Rattle.levels.specs.Levels.{bits, used, size, entries}
use Rattle.levels.proofs.Laws.{no_levels}
use Rattle.pending.specs.Pending.{forget_tops}
use Rattle.pending.proofs.Chain.{chained_none, forgotten}
use Rattle.sound.specs.Sound.{Stored, Sound, State, Becomes}
use Rattle.sound.proofs.Kept.{clients_kept, becomes}
use Rattle.outcome.specs.Parts.{with_rest}
use Rattle.finish.specs.Clearing.{off, unrest, unrested, remade_maps, cleared}

-- ---- the bytes

pub unrest_is : {xs ys zs : List ℕ} (i v : ℕ) → Holds xs → i < order_room → v ≡ cell xs C.orders i C.order_live → Set xs ys C.orders i C.order_resting 0 → Set ys zs C.orders i C.order_kept v →
    Is zs (unrest i (cell xs))
unfolding unrest
unrest_is {xs} i v h l e p q =
    rw (← e) (then_set (then_set (is_itself h) (order_cell i C.order_resting l (omega arith)) p) (order_cell i C.order_kept l (omega arith)) q)

pub none_unrested : (xs : List ℕ) → Holds xs → Is xs (unrested 0 (cell xs))
unfolding unrested
none_unrested xs h =
    record {
      holds = h;
      same = λ b i k c.
          sym
          (⊎_elim (λ (p : b ≡ C.orders). rw (p, le-ltb i 0 (omega arith)) refl) (λ p. rw (ne_eqb b C.orders p) refl) (same? b C.orders));
    }

-- one row more
one_more : (s : Store) (i b j k : ℕ) → unrest i (unrested i s) b j k ≡ unrested (i + 1) s b j k
unfolding unrest unrested
one_more s i b j k =
    ⊎_elim
    (λ (p : b ≡ C.orders).
    ⊎_elim
    (λ (q : j ≡ i). rw (p, q, eq-eqb i i refl, le-ltb i i (omega arith), lt-ltb i (i + 1) (omega arith)) refl)
    (λ q. rw (p, ne_eqb j i q) (ap (λ c. cond c (off (s C.orders j) k) (s C.orders j k)) (below q)))
    (same? j i))
    (λ p. rw (ne_eqb b C.orders p) refl)
    (same? b C.orders)
  where
    below : (j ≡ i → ⊥) → ltb j i ≡ ltb j (i + 1)
    below q =
        ⊎_elim (λ (l : j < i). lt-ltb j i l ∙ sym (lt-ltb j (i + 1) (omega arith))) (λ l. le-ltb j i l ∙ sym (le-ltb j (i + 1) (omega (arith, q)))) (lt_or_le j i)

same_unrest : (i : ℕ) (s t : Store) → i < order_room → Same s t → Same (unrest i s) (unrest i t)
unfolding unrest
same_unrest i s t l e =
    subst (λ v. Same (write C.orders i C.order_kept v (write C.orders i C.order_resting 0 s)) (write C.orders i C.order_kept (t C.orders i C.order_live) (write C.orders i C.order_resting 0 t)))
    (sym (e C.orders i C.order_live (order_cell i C.order_live l (omega arith))))
    (same_write (write C.orders i C.order_resting 0 s) (write C.orders i C.order_resting 0 t) C.orders i C.order_kept (t C.orders i C.order_live) (same_write s t C.orders i C.order_resting 0 e))

pub more_unrested : (s : Store) (ys zs : List ℕ) (i : ℕ) → i < order_room → Is ys (unrested i s) → Is zs (unrest i (cell ys)) → Is zs (unrested (i + 1) s)
more_unrested s ys zs i l p q =
    record { holds = q.holds; same = λ b j k c. q.same b j k c ∙ same_unrest i (cell ys) (unrested i s) l p.same b j k c ∙ one_more s i b j k }

same_unrested : (n : ℕ) (s t : Store) → Same s t → Same (unrested n s) (unrested n t)
unfolding unrested
same_unrested n s t e b i k c =
    ⊎_elim
    (λ (p : b ≡ C.orders).
    let d = rw p at c in
    let l = e C.orders i C.order_live (order_cell i C.order_live d.row_is (omega arith)) in
    let v = e C.orders i k d in
    rw p (λ z. cond (ltb i n) (cond (eqb k C.order_kept) (l z) (cond (eqb k C.order_resting) 0 (v z))) (v z)))
    (λ p. rw (ne_eqb b C.orders p) (e b i k c))
    (same? b C.orders)

pub remade_is : (xs : List ℕ) {ys zs us : List ℕ} → Is ys (emptied C.bid_map 8 (cell xs)) → Is zs (emptied C.ask_map 8 (cell ys)) → Is us (remap (cell zs)) → Is us (remade_maps (cell xs))
unfolding remade_maps
remade_is xs p q r = then_remap (then_emptied C.ask_map 8 p q) r

then_remade : {ys zs : List ℕ} {s : Store} → Is ys s → Is zs (remade_maps (cell ys)) → Is zs (remade_maps s)
unfolding remade_maps
then_remade {ys} {zs} {s} p q = record { holds = q.holds; same = λ b i k c. q.same b i k c ∙ maps_same b i k c }
  where
    maps_same : Same (remap (emptied C.ask_map 8 (emptied C.bid_map 8 (cell ys)))) (remap (emptied C.ask_map 8 (emptied C.bid_map 8 s)))
    maps_same =
        same_remap (emptied C.ask_map 8 (emptied C.bid_map 8 (cell ys))) (emptied C.ask_map 8 (emptied C.bid_map 8 s))
        (same_emptied C.ask_map 8 (emptied C.bid_map 8 (cell ys)) (emptied C.bid_map 8 s) (same_emptied C.bid_map 8 (cell ys) s p.same))

pub cleared_is : (xs : List ℕ) {us ys zs vs ws : List ℕ} (n last rows : ℕ) → n ≡ word (cell xs) C.order_rows → last ≡ word (cell xs) C.last → rows ≡ word (cell xs) C.changed_rows →
    Is us (forget_tops rows (cell xs)) → Is ys (unrested n (cell us)) →
    Is zs (fill C.header 0 C.resting_orders (0 ∷ 0 ∷ 0 ∷ 0 ∷ 0 ∷ 0 ∷ 0 ∷ 0 ∷ []) (cell ys)) → Is vs (fill C.header 0 C.delivered (last ∷ last ∷ []) (cell zs)) → Is ws (remade_maps (cell vs)) → Is ws (cleared (cell xs))
unfolding cleared
cleared_is xs {us} {ys} n last rows n_is last_is rows_is f p q r o =
    let g : Is ys (unrested n (forget_tops rows (cell xs))) =
    record { holds = p.holds; same = λ b i k c. p.same b i k c ∙ same_unrested n (cell us) (forget_tops rows (cell xs)) f.same b i k c } in
    rw (← n_is, ← last_is, ← rows_is)
    (then_remade (then_fill C.header 0 C.delivered (last ∷ last ∷ []) (then_fill C.header 0 C.resting_orders (0 ∷ 0 ∷ 0 ∷ 0 ∷ 0 ∷ 0 ∷ 0 ∷ 0 ∷ []) g q) r) o)

-- ---- the gateway

module _ (s : Store) where
  abbrev t : Store
  t = cleared s

  abbrev n : ℕ
  n = word s C.order_rows

  cell_is : (j k : ℕ) → j < n → t C.orders j k ≡ off (s C.orders j) k
  unfolding cleared remade_maps unrested fill emptied remap
  cell_is j k h = rw (lt-ltb j n h) refl

  -- a row in use rests no more, and is as it was otherwise
  row_is : (j : ℕ) → j < n → t C.orders j ≡ off (s C.orders j)
  row_is j h = λ z k. at k z
    where
      at : (k : ℕ) → t C.orders j k ≡ off (s C.orders j) k
      at k = cell_is j k h

  live_same : (j : ℕ) → j < n → ◌≡◌ {A = ℕ × Order} (t C.orders j C.order_live, order (t C.orders j)) (s C.orders j C.order_live, order (s C.orders j))
  live_same j h = ap (λ (r : Row). (r C.order_live, order r)) (row_is j h)

  orders_same : (ledger t).orders ≡ (ledger s).orders
  unfolding cleared remade_maps unrested fill emptied remap
  orders_same = shown_ext (λ j. (s C.orders j C.order_live, order (s C.orders j))) (λ j. (t C.orders j C.order_live, order (t C.orders j))) n live_same

  none_shown : {A : Type 0} (p : ℕ → ℕ × A) (m : ℕ) → ((j : ℕ) → j < m → (p j).0 ≡ 0) → shown p m ≡ []
  unfolding live
  none_shown p zero h = refl
  none_shown p (suc m) h = rw (add-one m) at (shown_dead p p m (λ j l. refl) (h m (omega arith)) ∙ none_shown p m (λ j l. h j (omega arith)))

  resting_none : (depth t).resting ≡ []
  unfolding cleared remade_maps unrested fill emptied remap
  resting_none = none_shown (λ j. (t C.orders j C.order_resting, resting (t C.orders j))) n (λ j h. ap (λ (r : Row). r C.order_resting) (row_is j h))

  abbrev g : Gateway
  g = with_rest (finished [] (gateway s).core) (gateway s)

  parts : gateway t ≡ with_lists (ledger t).orders (depth t).resting g
  unfolding cleared remade_maps unrested fill listed emptied remap
  parts = refl

  pub cleared_view : gateway t ≡ with_rest (finished [] (gateway s).core) (gateway s)
  cleared_view = parts ∙ ap₂ (λ (os : List Order) rs. with_lists os rs g) orders_same resting_none

  -- ---- the state stays sound

  flags_of : (v : ℕ) → v ≤ 1 → v ≡ either v 0
  flags_of zero h = refl
  flags_of (suc zero) h = refl
  flags_of (suc (suc v)) h = absurd (omega arith)

  module _ (d : Sound s) where
    flags : (j : ℕ) → j < n → Flags (t C.orders j)
    flags j h =
        let f = d.tables.ordered.sorted.flags j h in
        subst Flags (sym (row_is j h)) (record { live_is = f.live_is; resting_is = omega arith; kept_is = flags_of (s C.orders j C.order_live) f.live_is })

    number_same : (j : ℕ) → j < n → t C.orders j C.order_number ≡ s C.orders j C.order_number
    number_same j h = ap (λ (r : Row). r C.order_number) (row_is j h)

    stored : (j : ℕ) → j < n → 0 < t C.orders j C.order_live → Stored (ledger s).fee (t C.orders j)
    stored j h l =
        let f = d.held.rows j h (rw (ap (λ (r : Row). r C.order_live) (row_is j h)) at l) in
        subst (Stored (ledger s).fee) (sym (row_is j h)) (record { hold_is = f.hold_is; owner_is = f.owner_is })

    bounds : Bounds t
    unfolding cleared remade_maps unrested fill emptied remap
    bounds = let c = d.tables.ordered.bounds in search arith

    abbrev before : Store
    before =
        fill C.header 0 C.delivered (word s C.last ∷ word s C.last ∷ [])
        (fill C.header 0 C.resting_orders (0 ∷ 0 ∷ 0 ∷ 0 ∷ 0 ∷ 0 ∷ 0 ∷ 0 ∷ []) (unrested (word s C.order_rows) (forget_tops (word s C.changed_rows) s)))

    abbrev emptied_maps : Store
    emptied_maps = emptied C.ask_map 8 (emptied C.bid_map 8 before)

    bids_none : (j : ℕ) → j < most_levels → bits Buy t j ≡ 0
    unfolding cleared remade_maps remap
    bids_none j l =
        same_bit C.bid_map t emptied_maps j refl ∙ emptied_other C.ask_map 8 C.bid_map j (emptied C.bid_map 8 before) (λ e. omega arith)
        ∙ emptied_bit C.bid_map 8 j before (omega arith)

    asks_none : (j : ℕ) → j < most_levels → bits Sell t j ≡ 0
    unfolding cleared remade_maps remap
    asks_none j l = same_bit C.ask_map t emptied_maps j refl ∙ emptied_bit C.ask_map 8 j (emptied C.bid_map 8 before) (omega arith)

    pub cleared_sound : Sound t
    unfolding cleared remade_maps unrested fill emptied used size entries live remap
    cleared_sound =
        record {
          tables =
              record {
                ordered =
                    record {
                      bounds = bounds;
                      sorted =
                          record {
                            ascends = ascends_ext (λ k. k) (λ j. s C.orders j C.order_number) (λ j. t C.orders j C.order_number) n number_same d.tables.ordered.sorted.ascends;
                            flags = flags;
                          };
                      counted =
                          record {
                            live_count = d.tables.ordered.counted.live_count ∙ sym (ap length orders_same);
                            resting_count = sym (ap length resting_none);
                          };
                      mapped = remapped _ (λ j h. rw (ap (λ (r : Row). r C.order_kept) (row_is j h)) (d.tables.ordered.sorted.flags j h).live_is);
                    };
                bids = record { rising = λ i j h l. absurd (not-suc-le-zero l); are = sym (ap (D.levels Buy) resting_none); counted = refl; mapped = no_levels Buy t bids_none };
                asks = record { rising = λ i j h l. absurd (not-suc-le-zero l); are = sym (ap (D.levels Sell) resting_none); counted = refl; mapped = no_levels Sell t asks_none };
                live_few = d.tables.live_few;
                resting_few = omega arith;
                numbered = λ j h. rw (number_same j h) (d.tables.numbered j h);
                run = d.tables.run;
                chained = chained_none t refl (forgotten s d.tables.chained);
              };
          held =
              record {
                rows = stored;
                totals = λ a l z. d.held.totals a l z ∙ sym (ap (λ os. wrap (held (ledger s).fee a z os)) orders_same);
                counts = λ a l. d.held.counts a l ∙ sym (ap (open_of a) orders_same);
              };
          clients = clients_kept (λ i l. refl) (λ a l. refl) refl (λ j l. refl) d.clients;
        }

pub reset_becomes : {xs ys : List ℕ} → State xs → Is ys (cleared (cell xs)) → Becomes ys (with_rest (finished [] (gateway (cell xs)).core) (gateway (cell xs)))
reset_becomes {xs} st h = becomes h (cleared_sound (cell xs) st.sound) (cleared_view (cell xs))
