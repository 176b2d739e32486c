-- Rows in lent bytes: one cell more, one list of rows behind another, what stays, and what a reader finds. Assumes nothing.
use mathlib.Core.Path.{◌≡◌, refl, ap, ◌∙◌}
use mathlib.Core.Logic.{inl}
use mathlib.Core.List.{List, [], ◌∷◌, ◌++◌}
use Prim.Native.Nat.{ℕ, zero, suc, ◌+◌, ◌*◌, ◌≤◌, ◌<◌}
use native.Mathlib.Numerals.{add-one}
use native.Mathlib.Nat.{not-suc-le-zero, mul-add, mul-one}
use native.Mathlib.Omega.{arith}
use lib.ListN.{length, get_or, take}
use lib.Seq.{take-suc, take_all, length-take-le}
use Rattle.le.specs.Le.{le, put, Outside}
use Rattle.le.proofs.Laws.{length_put, le_put, le_outside, outside_put, outside_refl, outside_trans, outside_wider}
use Rattle.words.specs.Words.{modulus}
use Rattle.table.specs.Live.{Each}
use Rattle.rows.specs.Rows.{put_row, put_rows}

-- ---- a row

pub row_more : (xs : List ℕ) (o : ℕ) (vs : List ℕ) (v : ℕ) → put_row xs o (vs ++ (v ∷ [])) ≡ put 8 (put_row xs o vs) (o + 8 * length vs) v
unfolding put_row
row_more xs o [] v = let e : o + 8 * 0 ≡ o = omega arith in rw e refl
row_more xs o (u ∷ vs) v =
    let e : o + 8 + 8 * length vs ≡ o + 8 * length (u ∷ vs) = omega arith in
    row_more (put 8 xs o u) (o + 8) vs v ∙ ap (λ p. put 8 (put_row (put 8 xs o u) (o + 8) vs) p v) e

pub length_row : (xs : List ℕ) (o : ℕ) (vs : List ℕ) → length (put_row xs o vs) ≡ length xs
unfolding put_row
length_row xs o [] = refl
length_row xs o (v ∷ vs) = length_row (put 8 xs o v) (o + 8) vs ∙ length_put 8 xs o v

-- the loop of `put`
module _ (xs : List ℕ) (o : ℕ) (vs : List ℕ) where
  pub row_none : xs ≡ put_row xs o (take 0 vs)
  unfolding put_row
  row_none = refl

  pub row_step : (j : ℕ) (ys zs : List ℕ) → j < length vs → ys ≡ put_row xs o (take j vs) → zs ≡ put 8 ys (o + 8 * j) (get_or vs j 0) → zs ≡ put_row xs o (take (j + 1) vs)
  row_step j ys zs l p q =
      q ∙ rw (add-one j, take-suc vs j 0 l, row_more xs o (take j vs) (get_or vs j 0), length-take-le j vs (omega arith), p) refl

  pub row_all : (j : ℕ) (ys : List ℕ) → length vs ≤ j → ys ≡ put_row xs o (take j vs) → ys ≡ put_row xs o vs
  row_all j ys l p = rw (take_all j vs l) at p

row_outside : (xs : List ℕ) (o : ℕ) (vs : List ℕ) → Outside o (o + 8 * length vs) xs (put_row xs o vs)
unfolding put_row
row_outside xs o [] = outside_refl o (o + 8 * 0) xs
row_outside xs o (v ∷ vs) =
    outside_trans (outside_put o (o + 8 * length (v ∷ vs)) 8 xs o v (omega arith) (omega arith))
    (outside_wider o (o + 8 * length (v ∷ vs)) (omega arith) (omega arith) (row_outside (put 8 xs o v) (o + 8) vs))

row_read : (xs : List ℕ) (o : ℕ) (vs : List ℕ) (k : ℕ) → o + 8 * length vs ≤ length xs → k < length vs → get_or vs k 0 < modulus → le 8 (put_row xs o vs) (o + 8 * k) ≡ get_or vs k 0
unfolding put_row
row_read xs o [] k h l f = absurd (not-suc-le-zero l)
row_read xs o (v ∷ vs) zero h l f =
    let e : o + 8 * 0 ≡ o = omega arith in
    rw e (le_outside 8 o (row_outside (put 8 xs o v) (o + 8) vs) (inl (omega arith)) ∙ le_put 8 xs o v (omega arith) (omega arith))
row_read xs o (v ∷ vs) (suc k) h l f =
    let e : o + 8 * suc k ≡ o + 8 + 8 * k = omega arith in
    rw e (row_read (put 8 xs o v) (o + 8) vs k (omega (arith, length_put 8 xs o v)) (omega arith) f)

-- ---- rows of w bytes

module _ (w : ℕ) where
  pub rows_one : (i : ℕ) (r : List ℕ) (xs : List ℕ) → put_rows w i (r ∷ []) xs ≡ put_row xs (w * i) r
  unfolding put_rows
  rows_one i r xs = refl

  pub rows_append : (i : ℕ) (rs ss : List (List ℕ)) (xs : List ℕ) → put_rows w i (rs ++ ss) xs ≡ put_rows w (i + length rs) ss (put_rows w i rs xs)
  unfolding put_rows
  rows_append i [] ss xs = let e : i + 0 ≡ i = omega arith in rw e refl
  rows_append i (r ∷ rs) ss xs =
      let e : i + 1 + length rs ≡ i + length (r ∷ rs) = omega arith in
      rows_append (i + 1) rs ss (put_row xs (w * i) r) ∙ ap (λ j. put_rows w j ss (put_rows w (i + 1) rs (put_row xs (w * i) r))) e

  pub length_rows : (i : ℕ) (rs : List (List ℕ)) (xs : List ℕ) → length (put_rows w i rs xs) ≡ length xs
  unfolding put_rows
  length_rows i [] xs = refl
  length_rows i (r ∷ rs) xs = length_rows (i + 1) rs (put_row xs (w * i) r) ∙ length_row xs (w * i) r

-- rows of n cells fill their places
module _ (n : ℕ) where
  abbrev w : ℕ
  w = 8 * n

  -- the byte of a place
  place_more : (i k : ℕ) → w * (i + suc k) ≡ w * (i + 1 + k)
  place_more i k = let e : i + suc k ≡ i + 1 + k = omega arith in ap (λ j. w * j) e

  place_next : (i : ℕ) → w * (i + 1) ≡ w * i + w
  place_next i = rw (mul-add, mul-one) refl

  -- the bytes outside the places written are as they were
  pub rows_outside : (i : ℕ) (rs : List (List ℕ)) (xs : List ℕ) → Each (λ r. length r ≡ n) rs → Outside (w * i) (w * (i + length rs)) xs (put_rows w i rs xs)
  unfolding put_rows
  rows_outside i [] xs h = outside_refl (w * i) (w * (i + 0)) xs
  rows_outside i (r ∷ rs) xs h =
      outside_trans
      (outside_wider (w * i) (w * (i + length (r ∷ rs))) (omega arith) (omega (arith, h.0, far)) (row_outside xs (w * i) r))
      (outside_wider (w * i) (w * (i + length (r ∷ rs))) (omega (arith, place_next i)) (omega (arith, place_more i (length rs))) (rows_outside (i + 1) rs (put_row xs (w * i) r) h.1))
    where
      far : w * i + w ≤ w * (i + length (r ∷ rs))
      far = omega (arith, place_more i (length rs), mul-add w (i + 1) (length rs), place_next i)

  -- the cell k of the j-th row, where there is room and the number fits
  pub rows_read : (i : ℕ) (rs : List (List ℕ)) (xs : List ℕ) (j k : ℕ) → Each (λ r. length r ≡ n) rs → w * (i + length rs) ≤ length xs → j < length rs → k < n → get_or (get_or rs j []) k 0 < modulus →
      le 8 (put_rows w i rs xs) (w * (i + j) + 8 * k) ≡ get_or (get_or rs j []) k 0
  unfolding put_rows
  rows_read i [] xs j k h a l q f = absurd (not-suc-le-zero l)
  rows_read i (r ∷ rs) xs zero k h a l q f =
      let e : i + 0 ≡ i = omega arith in
      let far : w * i + w ≤ w * (i + length (r ∷ rs)) = omega (arith, place_more i (length rs), mul-add w (i + 1) (length rs), place_next i) in
      rw e
      (le_outside 8 (w * i + 8 * k) (rows_outside (i + 1) rs (put_row xs (w * i) r) h.1) (inl (omega (arith, place_next i)))
      ∙ row_read xs (w * i) r k (omega (arith, h.0)) (omega (arith, h.0)) f)
  rows_read i (r ∷ rs) xs (suc j) k h a l q f =
      rw (place_more i j)
      (rows_read (i + 1) rs (put_row xs (w * i) r) j k h.1 (omega (arith, length_row xs (w * i) r, place_more i (length rs))) (omega arith) q f)
