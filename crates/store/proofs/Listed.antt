-- Lists of f 0, .., f (n - 1). Assumes nothing.
use mathlib.Core.Path.{◌≡◌, refl, sym, ap, ap₂, ◌∙◌}
use mathlib.Core.Logic.{⊎_elim}
use mathlib.Core.List.{List, [], ◌∷◌, ◌++◌}
use Prim.Native.Nat.{ℕ, zero, suc, ◌+◌, ◌≤◌, ◌<◌}
use native.Mathlib.Nat.{not-suc-le-zero, le_of_suc-le-suc, eq-or-lt_of_le}
use native.Mathlib.Numerals.{add-one}
use native.Mathlib.Omega.{arith}
use lib.ListN.{length, get_or, take, set, length-append, get_or-append}
use lib.Seq.{ext_get_or, get_or_at, get_or-set_same, get_or-set_other, take_all, take-suc-set}
use lib.ListN.{length-set}
use Rattle.table.proofs.Live.{same?}
use Rattle.store.specs.View.{listed}

module _ {A : Type 0} where
  pub listed_length : (f : ℕ → A) (n : ℕ) → length (listed f n) ≡ n
  unfolding listed
  listed_length f zero = refl
  listed_length f (suc n) = length-append (listed f n) (f n ∷ []) ∙ ap (λ m. m + 1) (listed_length f n) ∙ add-one n

  pub listed_ext : (f g : ℕ → A) (n : ℕ) → ((j : ℕ) → j < n → g j ≡ f j) → listed g n ≡ listed f n
  unfolding listed
  listed_ext f g zero h = refl
  listed_ext f g (suc n) h = ap₂ (λ (l : List A) (x : A). l ++ (x ∷ [])) (listed_ext f g n (λ j l. h j (omega arith))) (h n (omega arith))

  pub listed_more : (f : ℕ → A) (n : ℕ) → listed f (n + 1) ≡ listed f n ++ (f n ∷ [])
  unfolding listed
  listed_more f n = ap (listed f) (add-one n)

  pub listed_at : (f : ℕ → A) (n i : ℕ) (d : A) → i < n → get_or (listed f n) i d ≡ f i
  unfolding listed
  listed_at f zero i d h = absurd (not-suc-le-zero h)
  listed_at f (suc n) i d h =
      ⊎_elim
      (λ (e : i ≡ n). rw e (get_or_at (listed f n) (f n) [] d n (listed_length f n)))
      (λ l. get_or-append (listed f n) (f n ∷ []) d i (rw (listed_length f n) l) ∙ listed_at f n i d l)
      (eq-or-lt_of_le (le_of_suc-le-suc h))

  -- one of them changed
  pub listed_set : (f g : ℕ → A) (n i : ℕ) (v : A) → i < n → g i ≡ v → ((j : ℕ) → j < n → (j ≡ i → ⊥) → g j ≡ f j) → listed g n ≡ set (listed f n) i v
  listed_set f g n i v h e k =
      ext_get_or v (listed g n) (set (listed f n) i v)
      (listed_length g n ∙ sym (listed_length f n) ∙ sym (length-set (listed f n) i v))
      (λ j l.
      let m : j < n = rw (listed_length g n) at l in
      listed_at g n j v m
      ∙ ⊎_elim
      (λ (q : j ≡ i). ap g q ∙ e ∙ sym (ap (λ x. get_or (set (listed f n) i v) x v) q ∙ get_or-set_same (listed f n) i v v (rw (listed_length f n) h)))
      (λ q. k j m q ∙ sym (get_or-set_other (listed f n) i j v v q ∙ listed_at f n j v m))
      (same? j i))

  -- a list that is filled from the front: its first j are f 0, .., f (j - 1)
  pub front_more : (f : ℕ → A) (l : List A) (j : ℕ) (v : A) → j < length l → take j l ≡ listed f j → v ≡ f j → take (j + 1) (set l j v) ≡ listed f (j + 1)
  front_more f l j v h p e =
      ap (λ n. take n (set l j v)) (add-one j) ∙ take-suc-set l j v h ∙ ap₂ (λ (xs : List A) (x : A). xs ++ (x ∷ [])) p e ∙ sym (listed_more f j)

  pub front_all : (f : ℕ → A) (l : List A) (j n : ℕ) → length l ≤ j → take j l ≡ listed f j → j ≡ n → l ≡ listed f n
  front_all f l j n h p e = sym (take_all j l h) ∙ p ∙ ap (listed f) e
