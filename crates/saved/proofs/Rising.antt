-- The loop over a table's rows: each row's key is above the one before it, and the row is fine. Assumes nothing.
use mathlib.Core.Path.{◌≡◌, refl, sym, ap, ap₂, ◌∙◌}
use mathlib.Core.Bool.{Bool, true, false, ◌&&◌, false≢true}
use mathlib.Core.List.{List, ◌∷◌}
use Prim.Native.Nat.{ℕ, suc, ◌+◌, ◌*◌, ◌-◌, ◌≤◌, ◌<◌}
use native.Mathlib.Nat.{mul-suc}
use native.Mathlib.Numerals.{add-one}
use native.Mathlib.Omega.{arith}
use Rattle.le.specs.Row.{span}
use Rattle.gateway.specs.Bytes.{keys_rise, all_rows}
use Rattle.saved.specs.Parts.{row_at, rows_at, key_at, least_key, rises, row_fits, rows_fit}

module _ (fine : List ℕ → Bool) (ws xs : List ℕ) (o n : ℕ) where
  -- the rows from j on
  abbrev rest : ℕ → List (List ℕ)
  rest j = rows_at ws xs (o + span ws * j) (n - j)

  -- the first j rows passed: what is left decides
  abbrev pub Passed : ℕ → Type 0
  Passed j = rows_fit fine (rows_at ws xs o n) ≡ keys_rise (least_key ws xs o j) (rest j) && all_rows fine (rest j)

  pub passed_first : Passed 0
  passed_first =
      let e : o ≡ o + span ws * 0 = omega arith in
      let d : n ≡ n - 0 = omega arith in
      ap₂ (λ (i k : ℕ). rows_fit fine (rows_at ws xs i k)) e d

  module _ (j : ℕ) (l : j < n) (p : Passed j) where
    apart : rest j ≡ row_at ws xs o j ∷ rest (j + 1)
    unfolding rows_at
    apart =
        let d : n - j ≡ suc (n - (j + 1)) = omega arith in
        let m : span ws * (j + 1) ≡ span ws * j + span ws = ap (λ k. span ws * k) (add-one j) ∙ mul-suc (span ws) j in
        let e : o + span ws * j + span ws ≡ o + span ws * (j + 1) = omega arith in
        ap (rows_at ws xs (o + span ws * j)) d ∙ ap (λ i. row_at ws xs o j ∷ rows_at ws xs i (n - (j + 1))) e

    left_is : rows_fit fine (rows_at ws xs o n) ≡ (rises ws xs o j && keys_rise (suc (key_at ws xs o j)) (rest (j + 1))) && (fine (row_at ws xs o j) && all_rows fine (rest (j + 1)))
    left_is = p ∙ ap (λ rs. keys_rise (least_key ws xs o j) rs && all_rows fine rs) apart

    pub passed_next : (b : Bool) → b ≡ row_fits fine ws xs o j → b ≡ true → Passed (j + 1)
    passed_next b e t =
        left_is
        ∙ go (rises ws xs o j) (fine (row_at ws xs o j)) (keys_rise (suc (key_at ws xs o j)) (rest (j + 1))) (all_rows fine (rest (j + 1))) (sym e ∙ t)
        ∙ ap (λ k. keys_rise k (rest (j + 1)) && all_rows fine (rest (j + 1))) (sym (ap (least_key ws xs o) (add-one j)))
      where
        go : (a c x y : Bool) → (a && c) ≡ true → (a && x) && (c && y) ≡ x && y
        go true true x y q = refl
        go true false x y q = absurd (false≢true q)
        go false c x y q = absurd (false≢true q)

    pub passed_not : (b : Bool) → b ≡ row_fits fine ws xs o j → b ≡ false → false ≡ rows_fit fine (rows_at ws xs o n)
    passed_not b e t =
        sym
        (left_is
        ∙ go (rises ws xs o j) (fine (row_at ws xs o j)) (keys_rise (suc (key_at ws xs o j)) (rest (j + 1))) (all_rows fine (rest (j + 1))) (sym e ∙ t))
      where
        go : (a c x y : Bool) → (a && c) ≡ false → (a && x) && (c && y) ≡ false
        go true true x y q = absurd (false≢true (sym q))
        go true false true y q = refl
        go true false false y q = refl
        go false c x y q = refl

  pub passed_last : (j : ℕ) → n ≤ j → Passed j → true ≡ rows_fit fine (rows_at ws xs o n)
  unfolding rows_at
  passed_last j l p =
      let d : 0 ≡ n - j = omega arith in
      ap (λ k. keys_rise (least_key ws xs o j) (rows_at ws xs (o + span ws * j) k) && all_rows fine (rows_at ws xs (o + span ws * j) k)) d ∙ sym p
