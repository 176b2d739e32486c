-- Codes 7 and 5 as the code judges them are the definitions' tests. Assumes nothing.
use Rattle.std.specs.Prelude.{is_some}
use mathlib.Core.Path.{◌≡◌, refl, sym, ap, ap₂, ◌∙◌}
use mathlib.Core.Bool.{Bool, true, false, cond, not, ◌&&◌, ◌||◌, and_assoc, and-eq-true_iff}
use mathlib.Core.List.{List}
use Prim.Native.Nat.{ℕ, ◌+◌, ◌-◌, ◌<◌}
use native.Mathlib.Omega.{arith}
use borrow.Author.Tests.{ltb-true, ltb-false}
use lib.Dec.{eqb, leb, ltb}
use lib.IntN.{ℤ, ◌+ℤ◌, ◌-ℤ◌}
use Rattle.orderbook.specs.declared.Side.{Side}
use Rattle.words.specs.Words.{int, ◌⊖◌, half, fit_in, fit, modulus}
use Rattle.words.proofs.Diff.{sum3, sum5}
use Rattle.words.proofs.Int.{low_is, high_is}
use Rattle.words.proofs.Fit.{lies_in}
use Rattle.gateway.specs.Limits.{most_notices}
use Rattle.gateway.specs.Ledger.{same_side, held, fits}
use Rattle.gateway.proofs.Base.{split}
use Rattle.store.specs.Cells as C
use Rattle.store.specs.Layout.{cell}
use Rattle.store.specs.View.{Store, word, side, ledger}
use Rattle.sound.specs.Sound.{held_cell}
use Rattle.live.proofs.Fits.{held_exact}
use Rattle.outcome.specs.Between.{Between}
use Rattle.holds.specs.declared.Shift.{Shift}
use Rattle.holds.specs.Holds.{Owned, shift_fits, is_one, pair_fits, small, is_small}

-- ---- both are parts of one total

pub all_four : (s t : Shift) (r : Bool) → r ≡ same_side (side s.side) (side t.side) → s.funded && t.funded && eqb s.account t.account && r ≡ is_one s t
all_four s t r h = simp (h, and_assoc)

-- ---- code 7

-- small numbers, and their sums
pub all_small : (s : Shift) (c : Store) (z : Side) (h : ℕ) → z ≡ side s.side → h ≡ c C.accounts s.account (held_cell z) → ltb h small && ltb s.old small && ltb s.new small ≡ is_small s c
all_small s c z h e k = and_assoc (ltb h small) (ltb s.old small) (ltb s.new small) ∙ ap (λ n. ltb n small && (ltb s.old small && ltb s.new small)) (k ∙ ap (λ w. c C.accounts s.account (held_cell w)) e)

small_is : (n : ℕ) → n < small → int n ≡ n ⊖ 0
small_is n l = low_is n n 0 (omega (arith, l)) (omega arith)

small_sum : {z : ℤ} (p q : ℕ) → z ≡ p ⊖ q → p < half → q < half → fits z ≡ true
unfolding fits
small_sum {z} p q e l k =
    split (λ c. (ltb p q ≡ c) → is_some (fit z) ≡ true) (ltb p q)
    (λ _ h. let d = ltb-true p q h in sym (ap (λ x. is_some (fit_in x)) (lies_in (p + modulus - q) p q e (high_is (p + modulus - q) p q (omega (arith, d)) (omega (arith, d)) (omega (arith, d))) (omega arith) (omega arith))))
    (λ _ h. let d = ltb-false p q h in sym (ap (λ x. is_some (fit_in x)) (lies_in (p - q) p q e (low_is (p - q) p q (omega (arith, d)) (omega (arith, d))) (omega arith) (omega arith))))
    refl

module _ {xs : List ℕ} (b : Between xs) (s : Shift) (o : Owned s (ledger (cell xs))) where
  exact : s.funded ≡ true → (z : Side) → int (cell xs C.accounts s.account (held_cell z)) ≡ held (ledger (cell xs)).fee s.account z (ledger (cell xs)).orders
  exact f = held_exact (cell xs) s.account b.state.sound.held b.ok.core_is.holds o.inside (o.has_wallet f)

  pub fits_is : (z : Side) → z ≡ side s.side → (r : Bool) → r ≡ fits (int (cell xs C.accounts s.account (held_cell z)) -ℤ int s.old +ℤ int s.new) →
      not s.funded || r ≡ shift_fits s (ledger (cell xs))
  fits_is z e r h =
      split (λ b. not b || r ≡ cond b (fits (held (ledger (cell xs)).fee s.account (side s.side) (ledger (cell xs)).orders -ℤ int s.old +ℤ int s.new)) true) s.funded
      (λ f. h ∙ ap (λ v. fits (v -ℤ int s.old +ℤ int s.new)) (exact f z ∙ ap (λ w. held (ledger (cell xs)).fee s.account w (ledger (cell xs)).orders) e)) (λ f. refl)

  -- small numbers fit
  abbrev held_at : ℕ
  held_at = cell xs C.accounts s.account (held_cell (side s.side))

  below : is_small s (cell xs) ≡ true → (held_at < small) × (s.old < small) × (s.new < small)
  below e =
      let a = (and-eq-true_iff (ltb held_at small) (ltb s.old small && ltb s.new small)).0 e in
      let b = (and-eq-true_iff (ltb s.old small) (ltb s.new small)).0 a.1 in
      (ltb-true held_at small a.0, ltb-true s.old small b.0, ltb-true s.new small b.1)

  small_fits : is_small s (cell xs) ≡ true → shift_fits s (ledger (cell xs)) ≡ true
  small_fits e =
      let w = below e in
      split (λ c. cond c (fits (held (ledger (cell xs)).fee s.account (side s.side) (ledger (cell xs)).orders -ℤ int s.old +ℤ int s.new)) true ≡ true) s.funded
      (λ f.
      ap (λ h. fits (h -ℤ int s.old +ℤ int s.new)) (sym (exact f (side s.side)))
      ∙ small_sum (held_at + s.new) (s.old + 0) (sum3 0 held_at s.old s.new (small_is held_at w.0) (small_is s.old w.1) (small_is s.new w.2)) (omega (arith, w.0, w.2)) (omega (arith, w.1)))
      (λ f. refl)

  module _ (t : Shift) (one : Bool) (one_is : one ≡ is_one s t) where
    pub pair_one : one ≡ true → (z : Side) → z ≡ side s.side → (r : Bool) →
        r ≡ fits (int (cell xs C.accounts s.account (held_cell z)) -ℤ int s.old +ℤ int s.new -ℤ int t.old +ℤ int t.new) → r ≡ pair_fits s t (ledger (cell xs))
    pair_one p z e r h =
        let f = ((and-eq-true_iff s.funded (t.funded && (eqb s.account t.account && same_side (side s.side) (side t.side)))).0 (sym one_is ∙ p)).0 in
        h ∙ ap (λ v. fits (v -ℤ int s.old +ℤ int s.new -ℤ int t.old +ℤ int t.new)) (exact f z ∙ ap (λ w. held (ledger (cell xs)).fee s.account w (ledger (cell xs)).orders) e)
        ∙ sym (ap (λ (c : Bool). judged c) (sym one_is ∙ p))
      where
        judged : Bool → Bool
        judged c =
            cond c (fits (held (ledger (cell xs)).fee s.account (side s.side) (ledger (cell xs)).orders -ℤ int s.old +ℤ int s.new -ℤ int t.old +ℤ int t.new))
            (shift_fits s (ledger (cell xs)) && shift_fits t (ledger (cell xs)))

    apart : one ≡ false → shift_fits s (ledger (cell xs)) && shift_fits t (ledger (cell xs)) ≡ pair_fits s t (ledger (cell xs))
    apart p =
        sym
        (ap (λ (c : Bool).
        cond c (fits (held (ledger (cell xs)).fee s.account (side s.side) (ledger (cell xs)).orders -ℤ int s.old +ℤ int s.new -ℤ int t.old +ℤ int t.new))
        (shift_fits s (ledger (cell xs)) && shift_fits t (ledger (cell xs)))) (sym one_is ∙ p))

    module _ (p : one ≡ false) (first : Bool) (first_is : first ≡ shift_fits s (ledger (cell xs))) where
      pub pair_second : first ≡ true → (second : Bool) → second ≡ shift_fits t (ledger (cell xs)) → second ≡ pair_fits s t (ledger (cell xs))
      pair_second e second second_is = ap₂ (λ u v. u && v) (sym e ∙ first_is) second_is ∙ apart p

      pub pair_first : first ≡ false → first ≡ pair_fits s t (ledger (cell xs))
      pair_first e = e ∙ ap (λ u. u && shift_fits t (ledger (cell xs))) (sym e ∙ first_is) ∙ apart p

module _ {xs : List ℕ} (b : Between xs) (s t : Shift) (o : Owned s (ledger (cell xs))) (p : Owned t (ledger (cell xs))) where
  pub both_small : (u v : Bool) → u ≡ is_small s (cell xs) → v ≡ is_small t (cell xs) → u && v ≡ true → true ≡ pair_fits s t (ledger (cell xs))
  both_small u v us vs e =
      split (λ c. (is_one s t ≡ c) → true ≡ cond c (fits (held (ledger (cell xs)).fee s.account (side s.side) (ledger (cell xs)).orders -ℤ int s.old +ℤ int s.new -ℤ int t.old +ℤ int t.new)) (shift_fits s (ledger (cell xs)) && shift_fits t (ledger (cell xs))))
      (is_one s t)
      (λ _ one.
      let f = ((and-eq-true_iff s.funded (t.funded && (eqb s.account t.account && same_side (side s.side) (side t.side)))).0 one).0 in
      let v = below b s o a.0 in
      let w = below b t p a.1 in
      let h = held_at b s o in
      sym
      (ap (λ k. fits (k -ℤ int s.old +ℤ int s.new -ℤ int t.old +ℤ int t.new)) (sym (exact b s o f (side s.side)))
      ∙ small_sum (h + (s.new + t.new)) (s.old + t.old + 0)
      (sum5 0 h s.old s.new t.old t.new (small_is h v.0) (small_is s.old v.1) (small_is s.new v.2) (small_is t.old w.1) (small_is t.new w.2))
      (omega (arith, v.0, v.2, w.2)) (omega (arith, v.1, w.1))))
      (λ _ one. sym (ap₂ (λ x y. x && y) (small_fits b s o a.0) (small_fits b t p a.1)))
      refl
    where
      a : (is_small s (cell xs) ≡ true) × (is_small t (cell xs) ≡ true)
      a = let w = (and-eq-true_iff u v).0 e in (sym us ∙ w.0, sym vs ∙ w.1)

-- ---- code 5

pub few_is : (s : Store) (k n : ℕ) → n ≡ word s C.notice_rows → leb (k + n) most_notices ≡ leb (k + word s C.notice_rows) most_notices
few_is s k n e = ap (λ m. leb (k + m) most_notices) e

pub ruleset judging = (all_four, all_small, fits_is, pair_one, pair_second, pair_first, both_small, few_is, arith)
