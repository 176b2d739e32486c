-- The bits of a word: shifted, negated, counted, put. Assumes nothing.
use mathlib.Core.Path.{◌≡◌, refl, sym, ap, ap₂, ◌∙◌}
use mathlib.Core.Logic.{⊎_elim}
use Prim.Native.Nat.{ℕ, zero, suc, ◌+◌, ◌*◌, ◌-◌, ◌/◌, ◌%◌, ◌^◌, ◌≤◌, ◌<◌}
use native.Mathlib.Nat.{mul_assoc, one-mul, pow-suc, div-one, div-eq_of_lt, lt_of_lt_of_le, lt_of_le_of_lt, mod-eq_of_lt, mod-lt}
use native.Mathlib.Numerals.{one-add}
use native.Mathlib.Omega.{arith}
use lib.Bits.{bit_or, bit_xor, or_shr, or_mod, xor_shr, xor_mod, or_zero_r, xor_zero_r, shifted_even}
use lib.Count.{count_leading_zeros, count_trailing_zeros, under, leading_length, leading_le, trailing_le}
use lib.Pow.{pow_pos, pow-add, pow_mono, ones_sub-lt, shl_lt, shl_exact, shl-shr, shr-shr, shr_le, high, field, mod-mod-pow}
use Rattle.le.proofs.Laws.{lt_or_le}
use Rattle.bitmap.specs.Bitmap.{digit, with_digit, FirstZero, LastZero}

-- ---- a bit of a word

pub digit_small : (w k : ℕ) → digit w k ≤ 1
digit_small w k = omega arith

digit_or : (a b k : ℕ) → digit (bit_or a b) k ≡ bit_or (digit a k) (digit b k)
digit_or a b k = ap (λ x. x % 2) (or_shr a b k) ∙ or_mod (a / 2 ^ k) (b / 2 ^ k) 1

digit_xor : (a b k : ℕ) → digit (bit_xor a b) k ≡ bit_xor (digit a k) (digit b k)
digit_xor a b k = ap (λ x. x % 2) (xor_shr a b k) ∙ xor_mod (a / 2 ^ k) (b / 2 ^ k) 1

-- a word that is shifted up
shifted_below : (w k i : ℕ) → i < k → digit (w * 2 ^ k) i ≡ 0
shifted_below w k i l =
    let d = k - suc i in
    let e : k ≡ suc d + i = omega arith in
    ap (λ n. digit (w * 2 ^ n) i) e ∙ ap (λ n. digit (w * n) i) (pow-add 2 (suc d) i) ∙ ap (λ n. digit n i) (sym (mul_assoc w (2 ^ suc d) (2 ^ i)))
    ∙ ap (λ x. x % 2) (shl-shr (w * 2 ^ suc d) i) ∙ shifted_even w d

shifted_from : (w k i : ℕ) → digit (w * 2 ^ k) (k + i) ≡ digit w i
shifted_from w k i = ap (λ x. x % 2) (sym (shr-shr (w * 2 ^ k) k i) ∙ ap (λ x. x / 2 ^ i) (shl-shr w k))

-- and down
digit_from : (w k i : ℕ) → digit (w / 2 ^ k) i ≡ digit w (k + i)
digit_from w k i = ap (λ x. x % 2) (shr-shr w k i)

digit_half : (w i : ℕ) → digit w (suc i) ≡ digit (w / 2) i
digit_half w i = sym (digit_from w 1 i ∙ ap (digit w) (one-add i))

pub digit_beyond : (w d i : ℕ) → w < 2 ^ d → d ≤ i → digit w i ≡ 0
digit_beyond w d i h l = ap (λ x. x % 2) (div-eq_of_lt (lt_of_lt_of_le h (pow_mono l)))

-- the low d bits
digit_low : (w d i : ℕ) → i < d → digit (w % 2 ^ d) i ≡ digit w i
digit_low w d i l =
    let e = d - suc i in
    let f : d ≡ (e + 1) + i = omega arith in
    ap (λ n. digit (w % 2 ^ n) i) f ∙ ap (λ x. x % 2) (field w (e + 1) i) ∙ mod-mod-pow (w / 2 ^ i) e 1

-- every bit the other way
pub digit_not : (d w i : ℕ) → w < 2 ^ d → i < d → digit (2 ^ d - 1 - w) i ≡ 1 - digit w i
digit_not zero w i h l = absurd (omega arith)
digit_not (suc d) w zero h l =
    let p : w < 2 ^ d * 2 = rw pow-suc at h in
    rw (pow-suc 2 d) (ap (λ x. x % 2) (div-one (2 ^ d * 2 - 1 - w)) ∙ omega arith ∙ ap (λ x. 1 - x % 2) (sym (div-one w)))
digit_not (suc d) w (suc i) h l =
    let p : w < 2 ^ d * 2 = rw pow-suc at h in
    let e : (2 ^ d * 2 - 1 - w) / 2 ≡ 2 ^ d - 1 - w / 2 = omega arith in
    rw (pow-suc 2 d)
    (digit_half (2 ^ d * 2 - 1 - w) i ∙ ap (λ x. digit x i) e ∙ digit_not d (w / 2) i (omega arith) (omega arith) ∙ ap (λ x. 1 - x) (sym (digit_half w i)))

-- v at the bit k and nothing else
module _ (v k : ℕ) (h : v ≤ 1) where
  alone_at : digit (v * 2 ^ k) k ≡ v
  alone_at = ap (λ x. x % 2) (shl-shr v k) ∙ mod-eq_of_lt (omega arith)

  alone_above : (i : ℕ) → k < i → digit (v * 2 ^ k) i ≡ 0
  alone_above i l = digit_beyond (v * 2 ^ k) (1 + k) i (shl_lt 1 k (omega arith)) (omega arith)

  alone_other : (i : ℕ) → (i ≡ k → ⊥) → digit (v * 2 ^ k) i ≡ 0
  alone_other i n = ⊎_elim (alone_above i) (λ l. shifted_below v k i (omega arith)) (lt_or_le k i)

-- ---- counts of zeros

-- the bits below the lowest that is set, and that one
trailing_zero : (d n i : ℕ) → i < count_trailing_zeros d n → digit n i ≡ 0
unfolding count_trailing_zeros
trailing_zero zero n i l = absurd (omega arith)
trailing_zero (suc d) n i l = go (n % 2) refl i l (trailing_zero d (n / 2))
  where
    go : (r : ℕ) → n % 2 ≡ r → (i : ℕ) → i < under r (count_trailing_zeros d (n / 2)) → ((i : ℕ) → i < count_trailing_zeros d (n / 2) → digit (n / 2) i ≡ 0) → digit n i ≡ 0
    go zero e zero l rest = ap (λ x. x % 2) (div-one n) ∙ e
    go zero e (suc i) l rest = digit_half n i ∙ rest i (omega arith)
    go (suc r) e i l rest = absurd (omega arith)

trailing_one : (d n : ℕ) → count_trailing_zeros d n < d → digit n (count_trailing_zeros d n) ≡ 1
unfolding count_trailing_zeros
trailing_one zero n l = absurd (omega arith)
trailing_one (suc d) n l = go (n % 2) refl l (trailing_one d (n / 2))
  where
    go : (r : ℕ) → n % 2 ≡ r → under r (count_trailing_zeros d (n / 2)) < suc d → (count_trailing_zeros d (n / 2) < d → digit (n / 2) (count_trailing_zeros d (n / 2)) ≡ 1) → digit n (under r (count_trailing_zeros d (n / 2))) ≡ 1
    go zero e l rest = digit_half n (count_trailing_zeros d (n / 2)) ∙ rest (omega arith)
    go (suc r) e l rest = ap (λ x. x % 2) (div-one n) ∙ omega arith

-- the bits above the highest that is set, and that one
leading_zero : (d n i : ℕ) → n < 2 ^ d → d ≤ count_leading_zeros d n + i → digit n i ≡ 0
leading_zero d n i h l = let m = leading_length d n h in digit_beyond n m.0 i m.2 (omega (arith, m.1))

leading_one : (d n j : ℕ) → n < 2 ^ d → count_leading_zeros d n + suc j ≡ d → digit n j ≡ 1
leading_one d n j h e =
    let m = leading_length d n h in
    let f : m.0 ≡ suc j = omega (arith, m.1) in
    let p : n < 2 ^ j * 2 = rw (f, pow-suc 2 j) at m.2 in
    let q : 2 ^ j * 2 ≤ 2 * n + 1 = rw (f, pow-suc 2 j) at m.3 in
    let g : n ≡ 1 * 2 ^ j + (n - 2 ^ j) = omega arith in
    ap (λ x. digit x j) g ∙ ap (λ x. x % 2) (high 1 j {lo = n - 2 ^ j} (omega arith))

was_one : (x y : ℕ) → x ≤ 1 → y ≡ 1 - x → y ≡ 0 → x ≡ 1
was_one x y h e f = omega arith

was_zero : (x y : ℕ) → x ≤ 1 → y ≡ 1 - x → y ≡ 1 → x ≡ 0
was_zero x y h e f = omega arith

module _ (w k : ℕ) (h : w < 2 ^ 64) (l : k < 64) where
  -- the bits from k on, the other way
  abbrev after : ℕ
  after = 2 ^ 64 - 1 - w / 2 ^ k

  after_is : (i : ℕ) → i < 64 → digit after i ≡ 1 - digit w (k + i)
  after_is i p = digit_not 64 (w / 2 ^ k) i (lt_of_le_of_lt (shr_le w k) h) p ∙ ap (λ x. 1 - x) (digit_from w k i)

  passed_one : (i : ℕ) → i < count_trailing_zeros 64 after → digit w (k + i) ≡ 1
  passed_one i p =
      was_one (digit w (k + i)) (digit after i) (digit_small w (k + i)) (after_is i (omega (arith, trailing_le 64 after))) (trailing_zero 64 after i p)

  pub few_after : k + count_trailing_zeros 64 after ≤ 64
  few_after =
      ⊎_elim
      (λ (p : 64 - k < count_trailing_zeros 64 after). omega (arith, passed_one (64 - k) p, digit_beyond w 64 (k + (64 - k)) h (omega arith)))
      (λ p. omega arith)
      (lt_or_le (64 - k) (count_trailing_zeros 64 after))

  pub first_zero_is : FirstZero w k (k + count_trailing_zeros 64 after)
  first_zero_is =
      record {
        from = omega arith;
        to = few_after;
        ones = λ j p q. let e : k + (j - k) ≡ j = omega arith in rw e at (passed_one (j - k) (omega arith));
        zero_at = λ p.
            let t = count_trailing_zeros 64 after in
            was_zero (digit w (k + t)) (digit after t) (digit_small w (k + t)) (after_is t (omega arith)) (trailing_one 64 after (omega arith));
      }

module _ (w k : ℕ) (l : k ≤ 64) where
  -- the bits before k, the other way, and ones below them
  abbrev before : ℕ
  before = 2 ^ 64 - 1 - w * 2 ^ (64 - k) % 2 ^ 64

  before_small : before < 2 ^ 64
  before_small = ones_sub-lt 64 (w * 2 ^ (64 - k) % 2 ^ 64)

  shifted_not : (i : ℕ) → i < 64 → digit before i ≡ 1 - digit (w * 2 ^ (64 - k)) i
  shifted_not i q =
      digit_not 64 (w * 2 ^ (64 - k) % 2 ^ 64) i (mod-lt (w * 2 ^ (64 - k)) (pow_pos 64)) q ∙ ap (λ x. 1 - x) (digit_low (w * 2 ^ (64 - k)) 64 i q)

  before_is : (i : ℕ) → i < k → digit before (64 - k + i) ≡ 1 - digit w i
  before_is i q = shifted_not (64 - k + i) (omega arith) ∙ ap (λ x. 1 - x) (shifted_from w (64 - k) i)

  below_is : (i : ℕ) → i < 64 - k → digit before i ≡ 1
  below_is i q = shifted_not i (omega arith) ∙ ap (λ x. 1 - x) (shifted_below w (64 - k) i q)

  pub few_before : count_leading_zeros 64 before ≤ k
  few_before =
      ⊎_elim
      (λ (q : k < count_leading_zeros 64 before).
      let z = leading_le 64 before in
      omega (arith, below_is (63 - k) (omega arith), leading_zero 64 before (63 - k) before_small (omega arith)))
      (λ q. q)
      (lt_or_le k (count_leading_zeros 64 before))

  pub last_zero_is : LastZero w k (k - count_leading_zeros 64 before)
  last_zero_is =
      record {
        to = omega arith;
        ones = λ j q r.
            was_one (digit w j) (digit before (64 - k + j)) (digit_small w j) (before_is j r) (leading_zero 64 before (64 - k + j) before_small (omega arith));
        zero_at = λ q.
            let j = k - count_leading_zeros 64 before - 1 in
            was_zero (digit w j) (digit before (64 - k + j)) (digit_small w j) (before_is j (omega arith)) (leading_one 64 before (64 - k + j) before_small (omega arith));
      }

-- ---- a bit that is put

or_bits : (d v : ℕ) → d ≤ 1 → v ≤ 1 → bit_or (bit_xor (bit_or d 1) 1) v ≡ v
or_bits zero v h l = refl
or_bits (suc zero) v h l = refl
or_bits (suc (suc d)) v h l = absurd (omega arith)

module _ (w k v : ℕ) (l : k < 64) (h : v ≤ 1) where
  digits_put : (i : ℕ) → digit (with_digit w k v) i ≡ bit_or (bit_xor (bit_or (digit w i) (digit (2 ^ k) i)) (digit (2 ^ k) i)) (digit (v * 2 ^ k) i)
  digits_put i =
      ap (λ x. digit (bit_or (bit_xor (bit_or w (2 ^ k)) (2 ^ k)) x) i) (shl_exact {a = v} 1 k 64 (omega arith) (omega arith))
      ∙ digit_or (bit_xor (bit_or w (2 ^ k)) (2 ^ k)) (v * 2 ^ k) i
      ∙ ap (λ x. bit_or x (digit (v * 2 ^ k) i)) (digit_xor (bit_or w (2 ^ k)) (2 ^ k) i ∙ ap (λ x. bit_xor x (digit (2 ^ k) i)) (digit_or w (2 ^ k) i))

  pub digit_put : digit (with_digit w k v) k ≡ v
  digit_put =
      digits_put k ∙ ap₂ (λ x y. bit_or (bit_xor (bit_or (digit w k) x) x) y) (ap (λ x. digit x k) (sym (one-mul (2 ^ k))) ∙ alone_at 1 k (omega arith)) (alone_at v k h)
      ∙ or_bits (digit w k) v (digit_small w k) h

  pub digit_kept : (i : ℕ) → (i ≡ k → ⊥) → digit (with_digit w k v) i ≡ digit w i
  digit_kept i n =
      digits_put i ∙ ap₂ (λ x y. bit_or (bit_xor (bit_or (digit w i) x) x) y) (ap (λ x. digit x i) (sym (one-mul (2 ^ k))) ∙ alone_other 1 k (omega arith) i n) (alone_other v k h i n)
      ∙ or_zero_r (bit_xor (bit_or (digit w i) 0) 0) ∙ xor_zero_r (bit_or (digit w i) 0) ∙ or_zero_r (digit w i)

-- as the code has it
pub put_digit : (w k v : ℕ) → k < 64 → let mask = 1 * 2 ^ k % 2 ^ 64 in bit_or (bit_xor (bit_or w mask) mask) (v * 2 ^ k % 2 ^ 64) ≡ with_digit w k v
put_digit w k v l =
    ap (λ m. bit_or (bit_xor (bit_or w m) m) (v * 2 ^ k % 2 ^ 64)) (shl_exact {a = 1} 1 k 64 (omega arith) (omega arith) ∙ one-mul (2 ^ k))
