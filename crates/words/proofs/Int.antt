-- A word's number: low words are themselves, high ones 2^64 less; and an i64's word. Assumes nothing.
use mathlib.Core.Path.{◌≡◌, refl, sym, ◌∙◌, ap, subst}
use mathlib.Core.Bool.{true, false}
use Prim.Native.Nat.{ℕ, suc, ◌+◌, ◌-◌, ◌≤◌, ◌<◌}
use native.Mathlib.Omega.{arith}
use lib.Dec.{T}
use lib.IntN.{ℤ, pos, negsuc, ◌+ℤ◌, ◌-ℤ◌}
use lib.Signed.{lt_z, mag}
use mir.Syntax.{w64}
use mir.Val.{of_z, to_z, SFits}
use mir.ValLaws.{to_z-of_z, of_z-to_z}
use borrow.Author.Tests.{lt-ltb, le-ltb, ltb-true}
use Rattle.words.specs.Words.{half, least, most, int, ◌⊖◌, modulus}
use Rattle.words.proofs.Diff.{⊖_ind, pos_is, negsuc_is, ⊖_same}

pub low : (w : ℕ) → w < half → int w ≡ pos w
unfolding int
low w h = rw (lt-ltb w half h)

pub high : (w : ℕ) → w < modulus → half ≤ w → int w ≡ w ⊖ modulus
unfolding int
high w f h = rw (le-ltb w half h) (negsuc_is (modulus - suc w) w modulus (omega arith))

pub low_is : (w p q : ℕ) → w < half → p ≡ q + w → int w ≡ p ⊖ q
low_is w p q h e = low w h ∙ pos_is w p q e

pub high_is : (w p q : ℕ) → w < modulus → half ≤ w → w + q ≡ p + modulus → int w ≡ p ⊖ q
high_is w p q f h e = high w f h ∙ ⊖_same w modulus p q e

pub int_zero : int 0 ≡ pos 0
unfolding int
int_zero = refl

pub int_most : int (half - 1) ≡ most
unfolding int
int_most = refl

pub int_least : int half ≡ least
unfolding int
int_least = refl

-- an i64 that is returned or passed on is read back from its bits
pub read : {x : ℤ} → mag x < half → to_z w64 (of_z w64 x) ≡ x
read {x} h = to_z-of_z w64 x (record { sfits = h })

pub int_of : (x : ℤ) → SFits w64 x → int (of_z w64 x) ≡ x
unfolding int
int_of x f = to_z-of_z w64 x f

-- a word is the two's complement of its number, so that two words with one number are the same
pub of_int : (w : ℕ) → w < modulus → of_z w64 (int w) ≡ w
unfolding int
of_int w h = of_z-to_z w64 w (record { fits = h })

pub int_injective : (v w : ℕ) → v < modulus → w < modulus → int v ≡ int w → v ≡ w
int_injective v w h k e = sym (of_int v h) ∙ ap (of_z w64) e ∙ of_int w k

pub ⊖_fits : (p q : ℕ) → p < q + half → q ≤ p + half → mag (p ⊖ q) < half
⊖_fits p q h k = ⊖_ind (λ z. mag z < half) p q (λ n e. omega arith) (λ n e. omega arith)

-- a negative number, raised by 2^63
pub up : (x : ℤ) → SFits w64 x → lt_z (to_z w64 (of_z w64 x)) (pos 0) ≡ true → (n : ℕ) × (to_z w64 (of_z w64 x) -ℤ least ≡ pos n) × (n + half ≡ of_z w64 x) × (n < half)
unfolding ◌⊖◌
up x f t = rw (to_z-of_z w64 x f) (go x f (rw (to_z-of_z w64 x f) at t))
  where
    go : (x : ℤ) → SFits w64 x → lt_z x (pos 0) ≡ true → (n : ℕ) × (x -ℤ least ≡ pos n) × (n + half ≡ of_z w64 x) × (n < half)
    go (pos n) f t = absurd (omega (arith, ltb-true n 0 t))
    go (negsuc k) f t = (half - suc k, sym (pos_is (half - suc k) half (suc k) (omega (arith, f.sfits))), omega (arith, f.sfits), omega arith)

pub natural : (x : ℤ) → SFits w64 x → lt_z (to_z w64 (of_z w64 x)) (pos 0) ≡ false → to_z w64 (of_z w64 x) ≡ pos (of_z w64 x)
natural x f t = to_z-of_z w64 x f ∙ go x (rw (to_z-of_z w64 x f) at t)
  where
    go : (x : ℤ) → lt_z x (pos 0) ≡ false → x ≡ pos (of_z w64 x)
    go (pos n) t = refl
    go (negsuc k) t = absurd (subst T t tt)

-- a high word, lowered
pub down : (w : ℕ) → w < modulus → half ≤ w → to_z w64 (w - half) +ℤ least ≡ w ⊖ modulus
unfolding ◌⊖◌
down w f h = rw (lt-ltb (w - half) half (omega arith)) (⊖_same (w - half) half w modulus (omega arith))
