-- Code 8: the listing has the live orders. Assumes nothing.
use Rattle.std.specs.Prelude.{Option, Some, None}
use mathlib.Core.Path.{◌≡◌, refl, sym, ap, ap₂, subst, ◌∙◌}
use mathlib.Core.Bool.{Bool, true, false, cond, ◌&&◌, and-eq-true_iff, true≢false, and-true, and-false, and_assoc}
use mathlib.Core.List.{List, [], ◌∷◌}
use Prim.Native.Nat.{ℕ, ◌+◌, ◌≤◌, ◌<◌}
use native.Mathlib.Omega.{arith}
use borrow.Author.Tests.{eq-eqb, ne_eqb, eqb-true}
use lib.Dec.{eqb}
use lib.ListN.{length}
use Rattle.orderbook.specs.declared.Listed.{Listed}
use Rattle.table.specs.Live.{Each, look}
use Rattle.gateway.specs.Ledger.{Order, number_of, find}
use Rattle.gateway.specs.Listing.{listed_number, listed_times, entry_agrees, entries_agree, listing_agrees}
use Rattle.gateway.proofs.Base.{split}
use Rattle.gateway.proofs.Sorted.{look_key}
use Rattle.store.specs.Cells as C
use Rattle.store.specs.Layout.{cell}
use Rattle.store.specs.View.{word, order, ledger}
use Rattle.orders.specs.declared.Live.{Live}
use Rattle.orders.specs.Orders.{live_row}
use Rattle.sound.specs.Sound.{State}
use Rattle.listing.specs.declared.Entry.{Entry}
use Rattle.listing.specs.Rows.{entry, listed_as, rows, row, listing, from}
use Rattle.listing.proofs.Listings.{order_is, stop_is, number_is, rows_are, from_row, from_none, later}
use Rattle.finish.specs.Clearing.{agrees_once}

-- ---- an entry and a live order

module _ (xs : List ℕ) (i : ℕ) (e : Entry) where
  abbrev o : Order
  o = order (cell xs C.orders i)

  pub same_stop : (e.kind ≡ 0 → ⊥) → true ≡ entry_agrees (listed_as e) (Some o)
  same_stop h = sym (ap (λ (x : Listed). entry_agrees x (Some o)) (stop_is e h))

  module _ (h : e.kind ≡ 0) (v : Live) (v_is : v ≡ live_row (cell xs C.orders i)) where
    same_is : entry_agrees (listed_as e) (Some o) ≡ eqb v.leaves e.leaves && eqb v.account e.owner
    same_is =
        ap (λ (x : Listed). entry_agrees x (Some o)) (order_is e h) ∙ ap (λ (w : Live). eqb w.leaves e.leaves && eqb w.account e.owner) (sym v_is)

    pub same_leaves : v.leaves ≡ e.leaves → eqb v.account e.owner ≡ entry_agrees (listed_as e) (Some o)
    same_leaves q = sym (same_is ∙ ap (λ b. b && eqb v.account e.owner) (eq-eqb v.leaves e.leaves q))

    pub other_leaves : (v.leaves ≡ e.leaves → ⊥) → false ≡ entry_agrees (listed_as e) (Some o)
    other_leaves q = sym (same_is ∙ ap (λ b. b && eqb v.account e.owner) (ne_eqb v.leaves e.leaves q))

-- ---- a row

module _ (list : List ℕ) (os : List Order) (j : ℕ) (e : Entry) (e_is : e ≡ entry list j) (b : Bool) (live_is : b ≡ entry_agrees (listed_as e) (find e.number os)) where
  once_is : agrees_once (listing list) os (row list j) ≡ b && eqb (listed_times e.number (listing list)) 1
  once_is =
      ap (λ (x : Entry). agrees_once (listing list) os (listed_as x)) (sym e_is)
      ∙ ap (λ (n : ℕ). entry_agrees (listed_as e) (find n os) && eqb (listed_times n (listing list)) 1) (number_is e)
      ∙ ap (λ c. c && eqb (listed_times e.number (listing list)) 1) (sym live_is)

  pub row_once : (n : ℕ) → b ≡ true → n ≡ listed_times e.number (listing list) → eqb n 1 ≡ agrees_once (listing list) os (row list j)
  row_once n t q = ap (λ k. eqb k 1) q ∙ sym (once_is ∙ ap (λ c. c && eqb (listed_times e.number (listing list)) 1) t)

  pub row_differs : b ≡ false → false ≡ agrees_once (listing list) os (row list j)
  row_differs t = sym (once_is ∙ ap (λ c. c && eqb (listed_times e.number (listing list)) 1) t)

-- ---- all rows

entries_more : (all : List Listed) (x : Listed) (l : List Listed) (os : List Order) → entries_agree all (x ∷ l) os ≡ agrees_once all os x && entries_agree all l os
entries_more all x l os = sym (and_assoc (entry_agrees x (find (listed_number x) os)) (eqb (listed_times (listed_number x) all) 1) (entries_agree all l os))

module _ (list : List ℕ) (os : List Order) where
  abbrev pub Agree : ℕ → Type 0
  Agree j = entries_agree (listing list) (from j list) os ≡ true

  pub none_agree : Agree (rows list)
  none_agree = ap (λ l. entries_agree (listing list) l os) (from_none list)

  module _ (j : ℕ) (h : j < rows list) where
    here : entries_agree (listing list) (from j list) os ≡ agrees_once (listing list) os (row list j) && entries_agree (listing list) (from (j + 1) list) os
    here = ap (λ l. entries_agree (listing list) l os) (from_row list j h) ∙ entries_more (listing list) (row list j) (from (j + 1) list) os

    pub more_agree : (r : Bool) → r ≡ agrees_once (listing list) os (row list j) → r ≡ true → Agree (j + 1) → Agree j
    more_agree r e t a = here ∙ ap₂ (λ x y. x && y) (sym e ∙ t) a

    -- one that differs is enough
    pub one_differs : (r : Bool) → r ≡ agrees_once (listing list) os (row list j) → r ≡ false → false ≡ entries_agree (listing list) (listing list) os
    one_differs r e f =
        split (λ b. (entries_agree (listing list) (listing list) os ≡ b) → false ≡ b) (entries_agree (listing list) (listing list) os)
        (λ _ a. absurd (true≢false (sym (later list (λ l. entries_agree (listing list) l os ≡ true) tail 0 j (omega arith) (omega arith) a) ∙ here ∙ ap (λ x. x && entries_agree (listing list) (from (j + 1) list) os) (sym e ∙ f))))
        (λ _ _. refl) refl
      where
        tail : (x : Listed) (l : List Listed) → entries_agree (listing list) (x ∷ l) os ≡ true → entries_agree (listing list) l os ≡ true
        tail x l a = ((and-eq-true_iff (agrees_once (listing list) os x) (entries_agree (listing list) l os)).0 (sym (entries_more (listing list) x l os) ∙ a)).1

module _ (xs list : List ℕ) (st : State xs) (n k : ℕ) (n_is : n ≡ rows list) (k_is : k ≡ word (cell xs) C.live_orders) where
  abbrev os : List Order
  os = (ledger (cell xs)).orders

  count_is : eqb (length (listing list)) (length os) ≡ eqb n k
  count_is = ap₂ eqb (rows_are list ∙ sym n_is) (sym (k_is ∙ st.sound.tables.ordered.counted.live_count))

  pub as_many : (b : Bool) → n ≡ k → b ≡ entries_agree (listing list) (listing list) os → b ≡ listing_agrees (listing list) os
  unfolding listing_agrees
  as_many b e h = h ∙ sym (ap (λ c. entries_agree (listing list) (listing list) os && c) (count_is ∙ eq-eqb n k e) ∙ and-true (entries_agree (listing list) (listing list) os))

  pub not_as_many : (n ≡ k → ⊥) → false ≡ listing_agrees (listing list) os
  unfolding listing_agrees
  not_as_many e = sym (ap (λ c. entries_agree (listing list) (listing list) os && c) (count_is ∙ ne_eqb n k e) ∙ and-false (entries_agree (listing list) (listing list) os))

-- ---- what a listing that agrees gives

pub record Entered (last : ℕ) (all : List Listed) (x : Listed) : Type 0 where
  pub once : listed_times (listed_number x) all ≡ 1
  pub numbered : listed_number x ≤ last

look_each : (P : Order → Type 0) (n : ℕ) (o : Order) (os : List Order) → look number_of n os ≡ Some o → Each P os → P o
unfolding look
look_each P n o [] e t = let z : ◌≡◌ {A = ℕ} 0 1 = cc in absurd (omega (arith, z))
look_each P n o (x ∷ os) e t =
    split (λ b. cond b (Some x) (look number_of n os) ≡ Some o → P o) (eqb x.number n)
    (λ _ k. let q : x ≡ o = cc in subst P q t.0) (λ _ k. look_each P n o os k t.1) e

found : (last : ℕ) (x : Listed) (os : List Order) → Each (λ o. o.number ≤ last) os → entry_agrees x (find (listed_number x) os) ≡ true → listed_number x ≤ last
found last x os t h = go (find (listed_number x) os) refl h
  where
    go : (y : Option Order) → find (listed_number x) os ≡ y → entry_agrees x y ≡ true → listed_number x ≤ last
    go None e a = absurd (true≢false (sym a))
    go (Some o) e a = let l = look_each (λ o. o.number ≤ last) (listed_number x) o os e t in omega (arith, l, look_key number_of (listed_number x) o os e)

pub agree_each : (last : ℕ) (all l : List Listed) (os : List Order) → Each (λ o. o.number ≤ last) os → entries_agree all l os ≡ true → Each (Entered last all) l
agree_each last all [] os t h = tt
agree_each last all (x ∷ l) os t h =
    let a = (and-eq-true_iff (entry_agrees x (find (listed_number x) os)) (eqb (listed_times (listed_number x) all) 1 && entries_agree all l os)).0 h in
    let b = (and-eq-true_iff (eqb (listed_times (listed_number x) all) 1) (entries_agree all l os)).0 a.1 in
    (record { once = eqb-true (listed_times (listed_number x) all) 1 b.0; numbered = found last x os t a.0 }, agree_each last all l os t b.1)
