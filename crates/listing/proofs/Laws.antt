-- The laws by which the functions on levels and on the depth meet their contracts. Assumes nothing.
use mathlib.Core.Path.{◌≡◌, refl, sym, ap, ap₂, subst, ◌∙◌}
use mathlib.Core.Bool.{Bool, true, false, cond, ◌&&◌, true≢false, and-true, and-false}
use mathlib.Core.Logic.{⊎_elim}
use mathlib.Core.List.{List, ◌∷◌}
use Prim.Native.Nat.{ℕ, ◌+◌, ◌-◌, ◌^◌, ◌≤◌, ◌<◌}
use native.Mathlib.Omega.{arith}
use borrow.Author.Tests.{le-leb, lt-leb, lt-ltb, le-ltb}
use lib.Dec.{ltb, leb}
use lib.ListN.{length}
use Rattle.orderbook.specs.declared.Side.{Side}
use Rattle.orderbook.specs.declared.Side.TheVariants.{Buy, Sell}
use Rattle.orderbook.specs.declared.Listed.{Listed}
use Rattle.orderbook.specs.declared.Listed.TheVariants as L
use Rattle.le.proofs.Laws.{lt_or_le}
use Rattle.words.specs.Words.{int, modulus}
use Rattle.table.specs.Live.{insert}
use Rattle.table.proofs.Live.{same?}
use Rattle.gateway.specs.Limits.{most_orders}
use Rattle.gateway.specs.Ledger.{same_side}
use Rattle.gateway.specs.Depth.{Depth, Key, same_price, level, levels, resting_number, levels_fit, levels_few, depth_few}
use Rattle.gateway.specs.Depth as D
use Rattle.gateway.specs.Listing.{resting_in, listed_depth}
use Rattle.gateway.specs.Calls.{Gateway}
use Rattle.gateway.proofs.Base.{split}
use Rattle.gateway.proofs.AtPrice.{level_fits, levels_orders}
use Rattle.gateway.proofs.Listing.{distinct, resting_length}
use Rattle.store.specs.Cells as C
use Rattle.store.specs.Layout.{cell}
use Rattle.store.specs.View.{depth, gateway}
use Rattle.store.specs.View as View
use Rattle.pending.specs.Pending.{key}
use Rattle.orders.specs.declared.Resting.{Resting}
use Rattle.orders.specs.Orders.{resting_of}
use Rattle.sound.specs.Sound.{State, Becomes}
use Rattle.marketdata.specs.Marketdata.{with_depth, with_resting, Judged, CanAdd}
use Rattle.listing.specs.declared.Entry.{Entry}
use Rattle.listing.specs.Rows.{entry, listed_as, rows, row, listing, from}
use Rattle.listing.specs.Rests.{rests_at, level_from, levels_from, rested, CanJoin, CanRest}
use Rattle.listing.proofs.Listings.{order_is, stop_is, from_none, from_length, from_row, later, drop_tail, bears_it, bears_another}
use Rattle.listing.proofs.Tails.{order_in, shown_by, level_more, opens_one, opens_none, other_side, levels_most, fit_tail, order_fits, Fine, fine_tail, unlisted}

-- ---- whether an entry rests at a level

module _ (e : Entry) (s p : ℕ) where
  pub stop_not_at : (e.kind ≡ 0 → ⊥) → false ≡ rests_at (key s p) (listed_as e)
  stop_not_at h = sym (ap (rests_at (key s p)) (stop_is e h))

  module _ (h : e.kind ≡ 0) (b : Bool) (price_is : b ≡ same_price (int p) (int e.price)) where
    at_is : rests_at (key s p) (listed_as e) ≡ same_side (View.side s) (View.side e.side) && b
    at_is = ap (rests_at (key s p)) (order_is e h) ∙ ap (λ x. same_side (View.side s) (View.side e.side) && x) (sym price_is)

    pub at_price : (c : Bool) → b ≡ true → c ≡ same_side (View.side s) (View.side e.side) → c ≡ rests_at (key s p) (listed_as e)
    at_price c t side_is = sym (at_is ∙ ap₂ (λ x y. x && y) (sym side_is) t ∙ and-true c)

    pub at_another : b ≡ false → false ≡ rests_at (key s p) (listed_as e)
    at_another t = sym (at_is ∙ ap (λ x. same_side (View.side s) (View.side e.side) && x) t ∙ and-false (same_side (View.side s) (View.side e.side)))

-- an order that rests at a level shows what its row says
shown_is : (k : Key) (e : Entry) → rests_at k (listed_as e) ≡ true → shown_by (listed_as e) ≡ e.visible
shown_is k e h =
    ⊎_elim (λ z. ap shown_by (order_is e z)) (λ n. absurd (true≢false (sym h ∙ ap (rests_at k) (stop_is e n)))) (same? e.kind 0)

-- ---- the rows from j on

module _ (xs : List ℕ) (j : ℕ) where
  pub orders_fit : (k : Key) → (level_from k j xs).orders ≤ rows xs
  orders_fit k = omega (arith, levels_orders k.0 k.1 (resting_in (from j xs)), resting_length (from j xs), from_length xs j)

  pub levels_number : (z : Side) → length (levels_from z j xs) ≤ rows xs
  levels_number z = omega (arith, levels_most z (from j xs), from_length xs j)

  module _ (h : j < rows xs) (e : Entry) (e_is : e ≡ entry xs j) where
    here : from j xs ≡ listed_as e ∷ from (j + 1) xs
    here = from_row xs j h ∙ ap (λ (x : Entry). listed_as x ∷ from (j + 1) xs) (sym e_is)

    module _ (s p : ℕ) (b : Bool) (at : b ≡ rests_at (key s p) (listed_as e)) where
      count_is : (level_from (key s p) j xs).orders ≡ cond b 1 0 + (level_from (key s p) (j + 1) xs).orders
      count_is =
          ap (λ l. (level (key s p) (listed_depth l)).orders) here ∙ (level_more (key s p) (listed_as e) (from (j + 1) xs)).0
          ∙ ap (λ c. cond c 1 0 + (level_from (key s p) (j + 1) xs).orders) (sym at)

      pub counts_it : b ≡ true → (level_from (key s p) j xs).orders ≡ 1 + (level_from (key s p) (j + 1) xs).orders
      counts_it t = count_is ∙ ap (λ c. cond c 1 0 + (level_from (key s p) (j + 1) xs).orders) t

      pub counts_not : b ≡ false → (level_from (key s p) j xs).orders ≡ 0 + (level_from (key s p) (j + 1) xs).orders
      counts_not t = count_is ∙ ap (λ c. cond c 1 0 + (level_from (key s p) (j + 1) xs).orders) t

      show_is : (level_from (key s p) j xs).qty ≡ cond b (shown_by (listed_as e)) 0 + (level_from (key s p) (j + 1) xs).qty
      show_is =
          ap (λ l. (level (key s p) (listed_depth l)).qty) here ∙ (level_more (key s p) (listed_as e) (from (j + 1) xs)).1
          ∙ ap (λ c. cond c (shown_by (listed_as e)) 0 + (level_from (key s p) (j + 1) xs).qty) (sym at)

      pub shows_it : b ≡ true → (level_from (key s p) j xs).qty ≡ e.visible + (level_from (key s p) (j + 1) xs).qty
      shows_it t =
          show_is ∙ ap (λ c. cond c (shown_by (listed_as e)) 0 + (level_from (key s p) (j + 1) xs).qty) t
          ∙ ap (λ (v : ℕ). v + (level_from (key s p) (j + 1) xs).qty) (shown_is (key s p) e (sym at ∙ t))

      pub shows_not : b ≡ false → (level_from (key s p) j xs).qty ≡ 0 + (level_from (key s p) (j + 1) xs).qty
      shows_not t = show_is ∙ ap (λ c. cond c (shown_by (listed_as e)) 0 + (level_from (key s p) (j + 1) xs).qty) t

    -- ---- a level of its own

    module _ (s : ℕ) (b : Bool) (at : b ≡ rests_at (key s e.price) (listed_as e)) where
      pub opens_level : (n : ℕ) → b ≡ true → n ≡ (level_from (key s e.price) (j + 1) xs).orders → n ≡ 0 →
          length (levels_from (View.side s) j xs) ≡ 1 + length (levels_from (View.side s) (j + 1) xs)
      opens_level n t n_is z =
          ap (λ l. length (levels (View.side s) (resting_in l))) here ∙ opens_one (View.side s) (int e.price) (listed_as e) (from (j + 1) xs) (sym at ∙ t) (sym n_is ∙ z)

      pub joins_level : (n : ℕ) → b ≡ true → n ≡ (level_from (key s e.price) (j + 1) xs).orders → (n ≡ 0 → ⊥) →
          length (levels_from (View.side s) j xs) ≡ 0 + length (levels_from (View.side s) (j + 1) xs)
      joins_level n t n_is z =
          ap (λ l. length (levels (View.side s) (resting_in l))) here
          ∙ opens_none (View.side s) (int e.price) (listed_as e) (from (j + 1) xs) (sym at ∙ t) (λ q. z (n_is ∙ q))

      pub no_level : b ≡ false → length (levels_from (View.side s) j xs) ≡ 0 + length (levels_from (View.side s) (j + 1) xs)
      no_level t =
          let rest = from (j + 1) xs in
          let count : Listed → ℕ = λ x. length (levels (View.side s) (resting_in (x ∷ rest))) in
          ap (λ l. length (levels (View.side s) (resting_in l))) here
          ∙ ⊎_elim
          (λ z.
          ap count (order_is e z)
          ∙ other_side (View.side s) e.number e.owner (View.side e.side) (int e.price) e.leaves e.visible rest
          (ap (rests_at (key s e.price)) (sym (order_is e z)) ∙ sym at ∙ t))
          (λ n. ap count (stop_is e n) ∙ (let u : length (levels (View.side s) (resting_in rest)) ≡ 0 + length (levels (View.side s) (resting_in rest)) = omega arith in u))
          (same? e.kind 0)

    -- ---- code 7

    module _ (fit : levels_fit (resting_in (from (j + 1) xs)) ≡ true) where
      pub stop_fits : (e.kind ≡ 0 → ⊥) → true ≡ levels_fit (resting_in (from j xs))
      stop_fits k = sym (ap (λ l. levels_fit (resting_in l)) (here ∙ ap (λ (x : Listed). x ∷ from (j + 1) xs) (stop_is e k)) ∙ fit)

      pub joining_fits : (q : ℕ) → e.visible < 2 ^ 64 → e.kind ≡ 0 → q ≡ (level_from (key e.side e.price) (j + 1) xs).qty →
          leb q (18446744073709551615 - e.visible) ≡ levels_fit (resting_in (from j xs))
      joining_fits q v k q_is =
          below q e.visible v ∙ ap (λ n. ltb (n + e.visible) modulus) q_is
          ∙ sym
          (ap (λ l. levels_fit (resting_in l)) (here ∙ ap (λ (x : Listed). x ∷ from (j + 1) xs) (order_is e k))
          ∙ order_fits e.number e.owner (View.side e.side) (int e.price) e.leaves e.visible (from (j + 1) xs) fit)
        where
          below : (q v : ℕ) → v < 2 ^ 64 → leb q (18446744073709551615 - v) ≡ ltb (q + v) modulus
          below q v h =
              ⊎_elim (λ (l : q + v < modulus). le-leb q (18446744073709551615 - v) (omega arith) ∙ sym (lt-ltb (q + v) modulus l))
              (λ l. lt-leb q (18446744073709551615 - v) (omega arith) ∙ sym (le-ltb (q + v) modulus l)) (lt_or_le (q + v) modulus)

-- the levels of the rows from i on are in range, so those of later rows are
module _ (xs : List ℕ) (i j : ℕ) (a : i ≤ j) (b : j ≤ rows xs) where
  pub fit_later : levels_fit (resting_in (from i xs)) ≡ true → levels_fit (resting_in (from j xs)) ≡ true
  fit_later = later xs (λ l. levels_fit (resting_in l) ≡ true) fit_tail i j a b

  pub shown_fits : (k : Key) → levels_fit (resting_in (from i xs)) ≡ true → (level_from k j xs).qty < modulus
  shown_fits k h = level_fits k.0 k.1 (resting_in (from j xs)) (fit_later h)

pub none_fit : (xs : List ℕ) → levels_fit (resting_in (from (rows xs) xs)) ≡ true
unfolding levels_fit
none_fit xs = rw (from_none xs) refl

-- one row's levels do not fit: nor do those of all
pub unfit : (xs : List ℕ) (j : ℕ) → j ≤ rows xs → (r : Bool) → r ≡ levels_fit (resting_in (from j xs)) → r ≡ false → false ≡ levels_fit (resting_in (listing xs))
unfit xs j l r e f =
    split (λ b. (levels_fit (resting_in (listing xs)) ≡ b) → false ≡ b) (levels_fit (resting_in (listing xs)))
    (λ _ h. absurd (true≢false (sym (fit_later xs 0 j (omega arith) l h) ∙ sym e ∙ f))) (λ _ _. refl) refl

-- ---- code 5

pub few_is : (xs : List ℕ) (a b : ℕ) → a ≡ length (levels_from Buy 0 xs) → b ≡ length (levels_from Sell 0 xs) → a ≤ 512 → leb b 512 ≡ levels_few (resting_in (listing xs))
unfolding levels_few
few_is xs a b p q l = sym (rw (← p, ← q, le-leb a 512 l) refl)

pub many_bids : (xs : List ℕ) (a : ℕ) → a ≡ length (levels_from Buy 0 xs) → 512 < a → false ≡ levels_few (resting_in (listing xs))
unfolding levels_few
many_bids xs a p l = sym (rw (← p, lt-leb a 512 l) refl)

-- ---- the depth

module _ (xs list : List ℕ) (j : ℕ) (e : Entry) (e_is : e ≡ entry list j) where
  pub stop_rests : (e.kind ≡ 0 → ⊥) → State xs → Becomes xs (with_depth (rested (row list j)) (gateway (cell xs)))
  stop_rests h s = record { state = s; gateway_is = ap (λ (x : Listed). with_depth (rested x) (gateway (cell xs))) (sym (stop_is e h) ∙ ap listed_as e_is) }

  abbrev words : Resting
  words = record { side = e.side; price = e.price; visible = e.visible; leaves = e.leaves }

  module _ (h : e.kind ≡ 0) where
    here_is : row list j ≡ L.Order e.number e.owner (View.side e.side) (int e.price) e.leaves e.visible
    here_is = ap listed_as (sym e_is) ∙ order_is e h

    pub order_can : CanJoin (row list j) (cell xs) → CanAdd (resting_of e.number words) (cell xs)
    order_can c = subst (λ (x : Listed). CanJoin x (cell xs)) here_is c

    pub order_rests : {ys : List ℕ} → Becomes ys (with_depth (with_resting (insert resting_number (resting_of e.number words))) (gateway (cell xs))) →
        Becomes ys (with_depth (rested (row list j)) (gateway (cell xs)))
    order_rests {ys} b = subst (λ (x : Listed). Becomes ys (with_depth (rested x) (gateway (cell xs)))) (sym here_is) b

rested_is : (x : Listed) (l : List Listed) → rested x (listed_depth l) ≡ listed_depth (x ∷ l)
rested_is (L.Order i o s p v w) l = refl
rested_is (L.Stop i o s t q) l = refl

-- an entry of a listing that can rest, where those behind it do
entry_can : (s : View.Store) (last : ℕ) (x : Listed) (l : List Listed) → Fine last (x ∷ l) → depth s ≡ listed_depth l → View.word s C.last ≡ last → CanJoin x s
unfolding D.add depth_few
entry_can s last (L.Stop i o z t q) l f d e = tt
entry_can s last (L.Order i o z p v w) l f d e =
    record {
      absent = ap (λ (x : Depth). D.find_resting i x.resting) d ∙ unlisted i l f.distinct.0;
      at_most_last = rw e f.numbered.0;
      judged = subst (λ (x : Depth). Judged (D.add (order_in i z p v w) x)) (sym d) (record { fits = f.fit; few = few });
    }
  where
    few : depth_few (D.add (order_in i z p v w) (listed_depth l)) ≡ true
    few = rw (le-leb (length (resting_in (L.Order i o z p v w ∷ l))) most_orders (omega (arith, resting_length (L.Order i o z p v w ∷ l), f.few_orders)), f.few) refl

module _ (list xs : List ℕ) (c : CanRest (listing list) (gateway (cell xs))) where
  abbrev g : Gateway
  g = gateway (cell xs)

  pub fine : (j : ℕ) → Fine g.core.ledger.last (from j list)
  fine j =
      drop_tail (Fine g.core.ledger.last) (fine_tail g.core.ledger.last) j (listing list)
      (record { distinct = distinct (listing list) c.once; numbered = c.numbered; few_orders = c.few_orders; few = c.few; fit = c.fit })

  abbrev pub Rests : ℕ → List ℕ → Type 0
  Rests j ys = Becomes ys (with_depth (λ _. listed_depth (from j list)) g)

  pub none_rest : State xs → Rests (rows list) xs
  none_rest s = record { state = s; gateway_is = ap (λ d. with_depth (λ _. d) g) (c.empty ∙ sym (ap listed_depth (from_none list))) }

  module _ (j : ℕ) (some : 0 < j) (h : j ≤ rows list) {ys : List ℕ} (b : Rests j ys) where
    abbrev x : Listed
    x = row list (j - 1)

    rows_is : from (j - 1) list ≡ x ∷ from j list
    rows_is = let e : j - 1 + 1 ≡ j = omega arith in from_row list (j - 1) (omega arith) ∙ ap (λ n. x ∷ from n list) e

    pub row_can : CanJoin x (cell ys)
    row_can =
        entry_can (cell ys) g.core.ledger.last x (from j list) (subst (Fine g.core.ledger.last) rows_is (fine (j - 1))) (ap (λ (y : Gateway). y.rest.depth) b.gateway_is)
        (ap (λ (y : Gateway). y.core.ledger.last) b.gateway_is)

    pub row_rests : {zs : List ℕ} → Becomes zs (with_depth (rested x) (gateway (cell ys))) → Rests (j - 1) zs
    row_rests d =
        record {
          state = d.state;
          gateway_is =
              d.gateway_is ∙ ap (with_depth (rested x)) b.gateway_is
              ∙ ap (λ d. with_depth (λ _. d) g) (rested_is x (from j list) ∙ ap listed_depth (sym rows_is));
        }

pub ruleset laws = (stop_not_at, at_price, at_another, counts_it, counts_not, shows_it, shows_not, opens_level, joins_level, no_level, stop_fits, joining_fits, few_is, many_bids, stop_rests, order_can, order_rests, bears_it, bears_another, arith)
