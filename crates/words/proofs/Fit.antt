-- Where a difference p ⊖ q lies, and what fits. Assumes nothing.
use mathlib.Core.Path.{◌≡◌, sym, ◌∙◌, ap}
use Prim.Native.Nat.{ℕ, ◌+◌, ◌-◌, ◌≤◌, ◌<◌}
use native.Mathlib.Omega.{arith}
use lib.Dec.{leb}
use lib.IntN.{ℤ}
use lib.Signed.{le_z}
use borrow.Author.Tests.{le-leb, lt-leb}
use Rattle.words.specs.Words.{half, least, most, int, ◌⊖◌, inside, above, below, place_of}
use Rattle.words.proofs.Diff.{pos_is, negsuc_is, ⊖_le}

least_le : (p q : ℕ) → le_z least (p ⊖ q) ≡ leb (0 + q) (p + half)
least_le p q = rw (negsuc_is (half - 1) 0 half (omega arith)) (⊖_le 0 half p q)

le_most : (p q : ℕ) → le_z (p ⊖ q) most ≡ leb (p + 0) (half - 1 + q)
le_most p q = rw (pos_is (half - 1) (half - 1) 0 (omega arith)) (⊖_le p q (half - 1) 0)

place_in : (p q : ℕ) → p < q + half → q ≤ p + half → place_of (p ⊖ q) ≡ inside (p ⊖ q)
unfolding place_of
place_in p q h k = rw (least_le p q ∙ le-leb (0 + q) (p + half) (omega arith), le_most p q ∙ le-leb (p + 0) (half - 1 + q) (omega arith))

place_above : (p q : ℕ) → q + half ≤ p → place_of (p ⊖ q) ≡ above
unfolding place_of
place_above p q h = rw (least_le p q ∙ le-leb (0 + q) (p + half) (omega arith), le_most p q ∙ lt-leb (p + 0) (half - 1 + q) (omega arith))

place_below : (p q : ℕ) → p + half < q → place_of (p ⊖ q) ≡ below
unfolding place_of
place_below p q h = rw (least_le p q ∙ lt-leb (0 + q) (p + half) (omega arith))

pub lies_in : {z : ℤ} (w p q : ℕ) → z ≡ p ⊖ q → int w ≡ p ⊖ q → p < q + half → q ≤ p + half → inside (int w) ≡ place_of z
lies_in w p q e f h k = ap inside f ∙ sym (ap place_of e ∙ place_in p q h k)

pub lies_above : {z : ℤ} (p q : ℕ) → z ≡ p ⊖ q → q + half ≤ p → above ≡ place_of z
lies_above p q e h = sym (ap place_of e ∙ place_above p q h)

pub lies_below : {z : ℤ} (p q : ℕ) → z ≡ p ⊖ q → p + half < q → below ≡ place_of z
lies_below p q e h = sym (ap place_of e ∙ place_below p q h)
