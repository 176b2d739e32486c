-- What each function's way through the code shows, one law for each way, for `search`. Assumes nothing.
use Rattle.std.specs.Prelude.{Option, Some, None}
use mathlib.Core.Path.{◌≡◌, refl, sym, ◌∙◌, ap}
use mathlib.Core.Bool.{Bool, true, false}
use Prim.Native.Nat.{ℕ, ◌+◌, ◌-◌, ◌*◌, ◌≤◌, ◌<◌}
use native.Mathlib.Nat.{le_of_lt}
use native.Mathlib.Omega.{arith}
use lib.Dec.{leb}
use lib.Signed.{le_z}
use lib.IntN.{ℤ, pos, neg_ℤ, nat_abs, ◌+ℤ◌, ◌-ℤ◌, +ℤ_idr}
use borrow.Author.Rules.{rules}
use borrow.Author.Tests.{le-leb, lt-leb, lt-ltb, leb-true, leb-false}
use Rattle.words.specs.Words.{half, int, ◌⊖◌, signed, Place, place_of, fit_in, fit, modulus}
use Rattle.words.proofs.Diff.{⊖_ind, pos_is, ⊖_same, leb_same, neg_is, diff2, sum3, sum5, within, le_neg_neg, le_neg_pos, le_pos_neg}
use Rattle.words.proofs.Int.{int_zero, low, high, low_is, high_is}
use Rattle.words.proofs.Fit.{lies_in, lies_above, lies_below}
use Rattle.words.proofs.Product.{high_lt, product}

pub high_neg : (w n : ℕ) → w < modulus → half ≤ w → w + n ≡ modulus → int w ≡ neg_ℤ (pos n)
high_neg w n f h e = high_is w 0 n f h e ∙ sym (neg_is n)

abs_is : (p q : ℕ) → nat_abs (p ⊖ q) ≡ p - q + (q - p)
abs_is p q = ⊖_ind (λ z. nat_abs z ≡ p - q + (q - p)) p q (λ n e. omega arith) (λ n e. omega arith)

pub apart : (a b u v d : ℕ) → int a ≡ u ⊖ half → int b ≡ v ⊖ half → d ≡ u - v + (v - u) → d ≡ nat_abs (int a -ℤ int b)
apart a b u v d p q e = e ∙ sym (ap nat_abs (diff2 half u v p q) ∙ abs_is u v)

pub hi_less : (ah al bh bl : ℕ) → al < modulus → ah < bh → true ≡ leb (ah * modulus + al) (bh * modulus + bl)
hi_less ah al bh bl f h = sym (le-leb (ah * modulus + al) (bh * modulus + bl) (le_of_lt (high_lt modulus ah al bh bl f h)))

pub hi_more : (ah al bh bl : ℕ) → bl < modulus → bh < ah → false ≡ leb (ah * modulus + al) (bh * modulus + bl)
hi_more ah al bh bl f h = sym (lt-leb (ah * modulus + al) (bh * modulus + bl) (high_lt modulus bh bl ah al f h))

pub hi_same : (ah al bh bl : ℕ) → bh ≤ ah → ah ≤ bh → leb al bl ≡ leb (ah * modulus + al) (bh * modulus + bl)
hi_same ah al bh bl h k = leb_same al bl (ah * modulus + al) (bh * modulus + bl) (omega arith) (omega arith)

pub sums_le : (a b c u v w : ℕ) (l r : ℕ) (t : Bool) → int a ≡ u ⊖ half → int c ≡ w ⊖ half → l ≡ u + w → int b ≡ v ⊖ half → r ≡ v + half → t ≡ leb l r → t ≡ le_z (int a) (int b -ℤ int c)
sums_le a b c u v w l r t ea ec el eb er e = e ∙ (λ i. leb (el i) (er i)) ∙ sym (within half v w u eb ec ea)

-- the sign of a word
pub sign : (w : ℕ) → w < modulus → leb w (half - 1) ≡ le_z (pos 0) (int w)
unfolding ◌⊖◌
sign w f = go (leb w (half - 1)) refl
  where
    go : (t : Bool) → leb w (half - 1) ≡ t → leb w (half - 1) ≡ le_z (pos 0) (int w)
    go true e = e ∙ sym (ap (le_z (pos 0)) (low w (omega (arith, leb-true w (half - 1) e))) ∙ le-leb 0 w (omega arith))
    go false e = e ∙ sym (ap (le_z (pos 0)) (high w f (omega (arith, leb-false w (half - 1) e))) ∙ rw (lt-ltb w modulus f) refl)

pub fits_pos : (n : ℕ) → n < half → Some (int n) ≡ fit (pos n)
fits_pos n h = ap fit_in (lies_in n n 0 (pos_is n n 0 (omega arith)) (low_is n n 0 h (omega arith)) (omega arith) (omega arith))

pub not_pos : (n : ℕ) → half ≤ n → None ≡ fit (pos n)
not_pos n h = ap fit_in (lies_above n 0 (pos_is n n 0 (omega arith)) (omega arith))

pub fits_neg : (w n : ℕ) → n ≤ half → int w ≡ (half - n) ⊖ half → Some (int w) ≡ fit (neg_ℤ (pos n))
fits_neg w n h e = ap fit_in (lies_in w 0 n (neg_is n) (e ∙ ⊖_same (half - n) half 0 n (omega arith)) (omega arith) (omega arith))

pub not_neg : (n : ℕ) → half < n → None ≡ fit (neg_ℤ (pos n))
not_neg n h = ap fit_in (lies_below 0 n (neg_is n) (omega arith))

pub not_wide : (s : Bool) (h l : ℕ) → (h ≡ 0 → ⊥) → None ≡ fit (signed s (h * modulus + l))
not_wide true h l e = not_neg (h * modulus + l) (omega arith)
not_wide false h l e = not_pos (h * modulus + l) (omega arith)

pub one_word : (s t : Bool) (h l : ℕ) (r : Option ℤ) → h ≡ 0 → s ≡ t → r ≡ fit (signed t l) → r ≡ fit (signed s (h * modulus + l))
one_word s t h l r z e p = p ∙ (λ i. fit (signed (sym e i) (low_only i)))
  where
    low_only : l ≡ h * modulus + l
    low_only = omega arith

pub both_neg : (s t r : Bool) (m n : ℕ) → s ≡ true → t ≡ true → r ≡ leb n m → r ≡ le_z (signed s m) (signed t n)
both_neg s t r m n p q e = rw (p, q) (e ∙ sym (le_neg_neg m n))

pub neg_pos : (s t : Bool) (m n : ℕ) → s ≡ true → t ≡ false → true ≡ le_z (signed s m) (signed t n)
neg_pos s t m n p q = rw (p, q) (sym (le_neg_pos m n))

pub pos_neg : (s t r : Bool) (m n : ℕ) → s ≡ false → t ≡ true → r ≡ leb (m + n) 0 → r ≡ le_z (signed s m) (signed t n)
pos_neg s t r m n p q e = rw (p, q) (e ∙ sym (le_pos_neg m n))

pub both_pos : (s t r : Bool) (m n : ℕ) → s ≡ false → t ≡ false → r ≡ leb m n → r ≡ le_z (signed s m) (signed t n)
both_pos s t r m n p q e = rw (p, q) e

pub both : (m n : ℕ) (f r : Bool) → f ≡ leb m 0 → f ≡ true → r ≡ leb n 0 → r ≡ leb (m + n) 0
both m n f r e t p = p ∙ leb_same n 0 (m + n) 0 (omega (arith, leb-true m 0 (sym e ∙ t))) (omega arith)

pub not_both : (m n : ℕ) (f : Bool) → f ≡ leb m 0 → f ≡ false → f ≡ leb (m + n) 0
not_both m n f e t = t ∙ sym (lt-leb (m + n) 0 (omega (arith, leb-false m 0 (sym e ∙ t))))

pub one_moved : (total old new t o n : ℕ) (r : Place) → int total ≡ t ⊖ half → int old ≡ o ⊖ half → int new ≡ n ⊖ half → r ≡ place_of ((t + n) ⊖ (o + half)) → r ≡ place_of (int total -ℤ int old +ℤ int new)
one_moved total old new t o n r et eo en e = e ∙ ap place_of (sym (sum3 half t o n et eo en))

pub two_moved : (total old new old2 new2 t o n o2 n2 : ℕ) (r : Place) → int total ≡ t ⊖ half → int old ≡ o ⊖ half → int new ≡ n ⊖ half → int old2 ≡ o2 ⊖ half → int new2 ≡ n2 ⊖ half →
    r ≡ place_of ((t + (n + n2)) ⊖ (o + o2 + half)) → fit_in r ≡ fit (int total -ℤ int old +ℤ int new -ℤ int old2 +ℤ int new2)
two_moved total old new old2 new2 t o n o2 n2 r et eo en fo fn e = ap fit_in (e ∙ ap place_of (sym (sum5 half t o n o2 n2 et eo en fo fn)))

pub less_zero : (a b : ℕ) → int a -ℤ int 0 +ℤ int b ≡ int a +ℤ int b
less_zero a b = rw int_zero (ap (λ (z : ℤ). z +ℤ int b) (+ℤ_idr (int a)))

pub plus_zero : (a b : ℕ) → int a -ℤ int b +ℤ int 0 ≡ int a -ℤ int b
plus_zero a b = rw int_zero (+ℤ_idr (int a -ℤ int b))

pub ruleset laws = (rules, low, sign, apart, one_moved, fits_pos, not_pos, fits_neg, not_neg, not_wide, one_word, hi_less, hi_more, hi_same, sums_le, product, both_neg, neg_pos, pos_neg, both_pos, both, not_both)
