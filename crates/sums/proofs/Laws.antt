-- Sums of words are exact. Assumes nothing.
use Rattle.std.specs.Prelude.{is_some}
use Prim.Native.Nat.{ℕ, suc, ◌+◌, ◌*◌, ◌/◌, ◌%◌, ◌≤◌, ◌<◌, ◌-◌}
use mathlib.Core.Path.{◌≡◌, refl, sym, ap, ◌∙◌}
use mathlib.Core.Bool.{Bool, true, false, cond}
use native.Mathlib.Omega.{arith}
use borrow.Author.Tests.{le-leb, lt-leb, lt-ltb, le-ltb}
use lib.Dec.{leb, ltb}
use lib.IntN.{ℤ, pos, ◌+ℤ◌}
use lib.Signed.{le_z}
use Rattle.words.specs.Words.{base, half, modulus, least, most, int, ◌⊖◌, place_of, fit}
use Rattle.words.proofs.Diff.{pos_is, negsuc_is, ⊖_same, ⊖_add, ⊖_le, leb_same}
use Rattle.gateway.specs.Ledger.{fits}
use Rattle.sums.specs.declared.Sum.{Sum}
use Rattle.sums.specs.Sums.{Sums, HasRoom, Small, Adds, Judges}

pub nothing_sums : Sums 0 (pos 0) (record { high = 0; low = 0 })
nothing_sums = record { total = pos_is 0 0 0 refl; high_few = omega arith; low_few = omega arith }

split_word : (u : ℕ) → u / base * base + u % base ≡ u
split_word u = omega arith

pub more_sums : (k : ℕ) (z x : ℤ) (s r : Sum) → Sums k z s → Adds s x r → Sums (k + 1) (x +ℤ z) r
more_sums k z x s r h a =
    let u = a.raised in
    record {
      total =
          (λ i. a.number i +ℤ h.total i) ∙ ⊖_add u half (s.high * base + s.low) (k * half)
          ∙ ⊖_same (u + (s.high * base + s.low)) (half + k * half) (r.high * base + r.low) ((k + 1) * half) (omega (arith, split_word u, a.high_is, a.low_is));
      high_few = omega (arith, h.high_few, a.high_is, a.small, split_word u);
      low_few = omega (arith, h.low_few, a.low_is, a.small, split_word u);
    }

-- ---- judging

-- the upper half of the whole sum
abbrev top : Sum → ℕ
top s = s.high + s.low / base

fit_both : (b c : Bool) (z : ℤ) → le_z least z ≡ b → le_z z most ≡ c → fits z ≡ cond b c false
unfolding fits place_of
fit_both true true z p q = rw (p, q) refl
fit_both true false z p q = rw (p, q) refl
fit_both false c z p q = rw p refl

module _ (k : ℕ) (s : Sum) (small : Small k s) where
  not_low : (z : ℤ) → Sums k z s → le_z least z ≡ leb (k * 2147483648) (top s + 2147483648)
  not_low z h =
      (λ i. le_z (negsuc_is (half - 1) 0 half (omega arith) i) (h.total i)) ∙ ⊖_le 0 half (s.high * base + s.low) (k * half)
      ∙ leb_same (0 + k * half) (s.high * base + s.low + half) (k * 2147483648) (top s + 2147483648) (λ l. omega arith) (λ l. omega arith)

  not_high : (z : ℤ) → Sums k z s → le_z z most ≡ ltb (top s) ((k + 1) * 2147483648)
  not_high z h =
      (λ i. le_z (h.total i) (pos_is (half - 1) (half - 1) 0 refl i)) ∙ ⊖_le (s.high * base + s.low) (k * half) (half - 1) 0
      ∙ leb_same (s.high * base + s.low + 0) (half - 1 + k * half) (suc (top s)) ((k + 1) * 2147483648) (λ l. omega arith) (λ l. omega arith)

  pub judged_low : top s + 2147483648 < k * 2147483648 → Judges k s false
  judged_low l = record { is = λ z h. sym (fit_both false (le_z z most) z (not_low z h ∙ lt-leb (k * 2147483648) (top s + 2147483648) l) refl) }

  pub judged_high : k * 2147483648 ≤ top s + 2147483648 → Judges k s (ltb (top s) ((k + 1) * 2147483648))
  judged_high l =
      record { is = λ z h. sym (fit_both true (ltb (top s) ((k + 1) * 2147483648)) z (not_low z h ∙ le-leb (k * 2147483648) (top s + 2147483648) l) (not_high z h)) }

pub ruleset laws = (nothing_sums, judged_low, judged_high, arith)
