-- The rows of a listing from the last one to the first, and how often a number is among them. Assumes nothing.
use mathlib.Core.Path.{◌≡◌, sym, ap, ap₂, ◌∙◌}
use mathlib.Core.Bool.{cond}
use mathlib.Core.Logic.{⊎_elim}
use mathlib.Core.List.{List, [], ◌∷◌}
use Prim.Native.Nat.{ℕ, zero, suc, ◌+◌, ◌-◌, ◌≤◌, ◌<◌}
use native.Mathlib.Numerals.{add-one}
use native.Mathlib.Omega.{arith}
use borrow.Author.Tests.{eq-eqb, ne_eqb}
use lib.Dec.{eqb}
use lib.ListN.{length, drop, length-drop}
use lib.Seq.{drop-cons, drop-length}
use Rattle.orderbook.specs.declared.Listed.{Listed}
use Rattle.orderbook.specs.declared.Listed.TheVariants as L
use Rattle.table.proofs.Live.{same?}
use Rattle.gateway.specs.Listing.{listed_number, listed_times}
use Rattle.gateway.proofs.Base.{split}
use Rattle.store.specs.View.{side, maybe_price}
use Rattle.words.specs.Words.{int}
use Rattle.store.proofs.Listed.{listed_length, listed_at}
use Rattle.listing.specs.declared.Entry.{Entry}
use Rattle.listing.specs.Rows.{word_at, entry, listed_as, rows, row, listing, from}

-- ---- what an entry is, by its kind

abbrev as_order : Entry → Listed
as_order e = L.Order e.number e.owner (side e.side) (int e.price) e.leaves e.visible

abbrev as_stop : Entry → Listed
as_stop e = L.Stop e.number e.owner (side e.side) (maybe_price e.priced e.price) e.leaves

pub order_is : (e : Entry) → e.kind ≡ 0 → listed_as e ≡ as_order e
unfolding listed_as
order_is e h = ap (λ b. cond b (as_order e) (as_stop e)) (eq-eqb e.kind 0 h)

pub stop_is : (e : Entry) → (e.kind ≡ 0 → ⊥) → listed_as e ≡ as_stop e
unfolding listed_as
stop_is e h = ap (λ b. cond b (as_order e) (as_stop e)) (ne_eqb e.kind 0 h)

pub number_is : (e : Entry) → listed_number (listed_as e) ≡ e.number
number_is e = ⊎_elim (λ h. ap listed_number (order_is e h)) (λ h. ap listed_number (stop_is e h)) (same? e.kind 0)

-- ---- the rows from j on

-- what holds of a list holds of the rows behind its first
pub drop_tail : {A : Type 0} (P : List A → Type 0) → ((x : A) (l : List A) → P (x ∷ l) → P l) → (i : ℕ) (l : List A) → P l → P (drop i l)
drop_tail P h zero l p = p
drop_tail P h (suc i) [] p = p
drop_tail P h (suc i) (x ∷ l) p = drop_tail P h i l (h x l p)

module _ (xs : List ℕ) where
  pub rows_are : length (listing xs) ≡ rows xs
  rows_are = listed_length (row xs) (rows xs)

  pub from_none : from (rows xs) xs ≡ []
  from_none = ap (λ n. drop n (listing xs)) (sym rows_are) ∙ drop-length (listing xs)

  pub from_length : (j : ℕ) → length (from j xs) ≤ rows xs
  from_length j = omega (arith, length-drop j (listing xs), rows_are)

  module _ (j : ℕ) (h : j < rows xs) where
    pub from_row : from j xs ≡ row xs j ∷ from (j + 1) xs
    from_row =
        drop-cons (listing xs) j (row xs j) (rw rows_are h)
        ∙ ap₂ (λ (x : Listed) (l : List Listed). x ∷ l) (listed_at (row xs) (rows xs) j (row xs j) h) (ap (λ n. drop n (listing xs)) (sym (add-one j)))

  -- what holds of the rows from i on holds of those from a later one on
  pub later : (P : List Listed → Type 0) → ((x : Listed) (l : List Listed) → P (x ∷ l) → P l) → (i j : ℕ) → i ≤ j → j ≤ rows xs → P (from i xs) → P (from j xs)
  later P h i j l m p = go (j - i) i (omega arith) p
    where
      go : (n i : ℕ) → i + n ≡ j → P (from i xs) → P (from j xs)
      go zero i e p = let q : i ≡ j = omega arith in rw q at p
      go (suc n) i e p =
          go n (i + 1) (omega arith) (h (row xs i) (from (i + 1) xs) (rw (from_row i (omega arith)) at p))

  -- ---- a sum over the rows

  abbrev Sum : Type 0
  Sum = List Listed → ℕ

  pub sum_none : (f : Sum) → f [] ≡ 0 → 0 ≡ f (from (rows xs) xs)
  sum_none f e = sym (ap f from_none ∙ e)

  pub sum_more : (f : Sum) (n r j : ℕ) → 0 < j → n ≡ f (from j xs) → f (from (j - 1) xs) ≡ r + f (from (j - 1 + 1) xs) → n + r ≡ f (from (j - 1) xs)
  sum_more f n r j h p q =
      let e : j - 1 + 1 ≡ j = omega arith in
      let t : f (from (j - 1) xs) ≡ r + f (from j xs) = rw e at q in
      omega (arith, p, t)

-- ---- numbers

times_few : (n : ℕ) (l : List Listed) → listed_times n l ≤ length l
times_few n [] = omega arith
times_few n (x ∷ l) =
    let u = times_few n l in
    split (λ b. cond b (suc (listed_times n l)) (listed_times n l) ≤ suc (length l)) (eqb (listed_number x) n) (λ _. omega arith) (λ _. omega arith)

module _ (xs : List ℕ) (n j : ℕ) where
  pub times_fit : listed_times n (from j xs) ≤ rows xs
  times_fit = omega (arith, times_few n (from j xs), from_length xs j)

  module _ (h : j < rows xs) (w : ℕ) (w_is : w ≡ word_at xs j 1) where
    bears_is : (r : ℕ) → cond (eqb w n) (suc (listed_times n (from (j + 1) xs))) (listed_times n (from (j + 1) xs)) ≡ r + listed_times n (from (j + 1) xs) →
        listed_times n (from j xs) ≡ r + listed_times n (from (j + 1) xs)
    bears_is r e =
        ap (listed_times n) (from_row xs j h)
        ∙ ap (λ (k : ℕ). cond (eqb k n) (suc (listed_times n (from (j + 1) xs))) (listed_times n (from (j + 1) xs))) (number_is (entry xs j) ∙ sym w_is) ∙ e

    pub bears_it : w ≡ n → listed_times n (from j xs) ≡ 1 + listed_times n (from (j + 1) xs)
    bears_it e = bears_is 1 (rw (eq-eqb w n e) (omega arith))

    pub bears_another : (w ≡ n → ⊥) → listed_times n (from j xs) ≡ 0 + listed_times n (from (j + 1) xs)
    bears_another e = bears_is 0 (rw (ne_eqb w n e) (omega arith))
