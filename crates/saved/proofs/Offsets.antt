-- Reading by offsets: numbers, rows and tables of rows of any widths, from any place. Assumes nothing.
use Rattle.std.specs.Prelude.{Some, None}
use mathlib.Core.Path.{◌≡◌, refl, sym, ap, ◌∙◌}
use mathlib.Core.Logic.{⊎_elim}
use mathlib.Core.List.{List, [], ◌∷◌}
use Prim.Native.Nat.{ℕ, zero, suc, ◌+◌, ◌*◌, ◌≤◌, ◌<◌}
use native.Mathlib.Nat.{mul-suc, not-suc-le-zero}
use native.Mathlib.Numerals.{add-one}
use native.Mathlib.Omega.{arith}
use lib.ListN.{length, get_or, drop, drop_of_length-le}
use lib.Seq.{drop-cons}
use Rattle.le.specs.Le.{le}
use Rattle.le.specs.Row.{span, gets}
use Rattle.le.proofs.Laws.{lt_or_le}
use Rattle.gateway.specs.Bytes.{then, read_number, read_row, read_rows}
use Rattle.saved.specs.Parts.{row_at, rows_at}

module _ (xs : List ℕ) where
  cut : (o : ℕ) → o < length xs → drop o xs ≡ get_or xs o 0 ∷ drop (o + 1) xs
  cut o l = drop-cons xs o 0 l ∙ ap (λ k. get_or xs o 0 ∷ drop k xs) (sym (add-one o))

  -- ---- numbers

  pub number_read : (n o : ℕ) → o + n ≤ length xs → read_number n (drop o xs) ≡ Some (le n xs o, drop (o + n) xs)
  unfolding le
  number_read zero o h = let e : o ≡ o + 0 = omega arith in ap (λ k. Some (0, drop k xs)) e
  number_read (suc n) o h =
      let e : o + 1 + n ≡ o + suc n = omega arith in
      ap (read_number (suc n)) (cut o (omega arith))
      ∙ ap (λ r. then r (λ v more. Some (get_or xs o 0 + 256 * v, more))) (number_read n (o + 1) (omega arith))
      ∙ ap (λ k. Some (get_or xs o 0 + 256 * le n xs (o + 1), drop k xs)) e

  pub number_short : (n o : ℕ) → o ≤ length xs → length xs < o + n → read_number n (drop o xs) ≡ None
  number_short zero o h l = absurd (omega arith)
  number_short (suc n) o h l =
      ⊎_elim
      (λ (k : o < length xs).
      ap (read_number (suc n)) (cut o k) ∙ ap (λ r. then r (λ v more. Some (get_or xs o 0 + 256 * v, more))) (number_short n (o + 1) (omega arith) (omega arith)))
      (λ k. ap (read_number (suc n)) (drop_of_length-le xs {i = o} k))
      (lt_or_le o (length xs))

  -- ---- rows

  pub row_read : (ws : List ℕ) (o : ℕ) → o + span ws ≤ length xs → read_row ws (drop o xs) ≡ Some (gets ws xs o, drop (o + span ws) xs)
  row_read [] o h = let e : o ≡ o + 0 = omega arith in ap (λ k. Some ([], drop k xs)) e
  row_read (w ∷ ws) o h =
      let e : o + w + span ws ≡ o + (w + span ws) = omega arith in
      ap (λ r. then r (λ v more. then (read_row ws more) (λ vs end. Some (v ∷ vs, end)))) (number_read w o (omega arith))
      ∙ ap (λ r. then r (λ vs end. Some (le w xs o ∷ vs, end))) (row_read ws (o + w) (omega arith))
      ∙ ap (λ k. Some (le w xs o ∷ gets ws xs (o + w), drop k xs)) e

  pub row_short : (ws : List ℕ) (o : ℕ) → o ≤ length xs → length xs < o + span ws → read_row ws (drop o xs) ≡ None
  row_short [] o h l = absurd (omega arith)
  row_short (w ∷ ws) o h l =
      ⊎_elim
      (λ (k : length xs < o + w). ap (λ r. then r (λ v more. then (read_row ws more) (λ vs end. Some (v ∷ vs, end)))) (number_short w o h k))
      (λ k.
      ap (λ r. then r (λ v more. then (read_row ws more) (λ vs end. Some (v ∷ vs, end)))) (number_read w o k)
      ∙ ap (λ r. then r (λ vs end. Some (le w xs o ∷ vs, end))) (row_short ws (o + w) k (omega arith)))
      (lt_or_le (length xs) (o + w))

  -- ---- tables of rows

  module _ (ws : List ℕ) where
    pub rows_read : (n o : ℕ) → o + span ws * n ≤ length xs → read_rows ws n (drop o xs) ≡ Some (rows_at ws xs o n, drop (o + span ws * n) xs)
    unfolding rows_at
    rows_read zero o h = let e : o ≡ o + span ws * 0 = omega arith in ap (λ k. Some ([], drop k xs)) e
    rows_read (suc n) o h =
        let m = mul-suc (span ws) n in
        let e : o + span ws + span ws * n ≡ o + span ws * suc n = omega arith in
        ap (λ r. then r (λ v more. then (read_rows ws n more) (λ vs end. Some (v ∷ vs, end)))) (row_read ws o (omega arith))
        ∙ ap (λ r. then r (λ vs end. Some (gets ws xs o ∷ vs, end))) (rows_read n (o + span ws) (omega arith))
        ∙ ap (λ k. Some (gets ws xs o ∷ rows_at ws xs (o + span ws) n, drop k xs)) e

    pub rows_short : (n o : ℕ) → o ≤ length xs → length xs < o + span ws * n → read_rows ws n (drop o xs) ≡ None
    rows_short zero o h l = absurd (omega arith)
    rows_short (suc n) o h l =
        let m = mul-suc (span ws) n in
        ⊎_elim
        (λ (k : length xs < o + span ws). ap (λ r. then r (λ v more. then (read_rows ws n more) (λ vs end. Some (v ∷ vs, end)))) (row_short ws o h k))
        (λ k.
        ap (λ r. then r (λ v more. then (read_rows ws n more) (λ vs end. Some (v ∷ vs, end)))) (row_read ws o k)
        ∙ ap (λ r. then r (λ vs end. Some (gets ws xs o ∷ vs, end))) (rows_short n (o + span ws) k (omega arith)))
        (lt_or_le (length xs) (o + span ws))

    -- how many there are, and the j-th
    pub rows_count : (o n : ℕ) → length (rows_at ws xs o n) ≡ n
    unfolding rows_at
    rows_count o zero = refl
    rows_count o (suc n) = ap suc (rows_count (o + span ws) n)

    pub rows_nth : (o n j : ℕ) → j < n → get_or (rows_at ws xs o n) j [] ≡ row_at ws xs o j
    unfolding rows_at
    rows_nth o zero j l = absurd (not-suc-le-zero l)
    rows_nth o (suc n) zero l = let e : o ≡ o + span ws * 0 = omega arith in ap (gets ws xs) e
    rows_nth o (suc n) (suc j) l =
        let m = mul-suc (span ws) j in
        let e : o + span ws + span ws * j ≡ o + span ws * suc j = omega arith in
        rows_nth (o + span ws) n j (omega arith) ∙ ap (gets ws xs) e
