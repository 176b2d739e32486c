-- Products: by halves in base 2^32, by sign and size, and numbers of two words. Assumes nothing.
use mathlib.Core.Path.{◌≡◌, refl, sym, ◌∙◌, ap}
use mathlib.Core.Bool.{Bool, true, false}
use Prim.Native.Nat.{ℕ, zero, suc, ◌+◌, ◌*◌, ◌/◌, ◌%◌, ◌<◌}
use native.Mathlib.Nat.{zero-mul, mul-add, add-mul, mul_assoc, mul_right_comm, mul-mul-mul_comm, div-add-mod', lt_of_lt_of_le, le-add_right}
use native.Mathlib.Omega.{arith}
use lib.Arith.{digits_lt}
use lib.IntN.{ℤ, pos, ◌*ℤ◌}
use Rattle.words.specs.Words.{base, int, signed, modulus}

-- omega's numbers have at most 38 digits, so nothing here is multiplied by 2^64 twice
columns : (x w y v : ℕ) → (x * base + w) * (y * base + v) ≡ (x * y * base + (x * v + w * y)) * base + w * v
columns x w y v =
    omega (arith, mul-add (x * base + w) (y * base) v, add-mul (x * base) w (y * base), add-mul (x * base) w v, mul-mul-mul_comm x base y base, mul_assoc w y base, mul_right_comm x base v)

pub carried : (p q r l h : ℕ) → h ≡ p + (q + l / base) / base + (r + (q + l / base) % base) / base →
    h * modulus + ((r + (q + l / base) % base) % base * base + l % base) ≡ (p * base + (q + r)) * base + l
carried p q r l h e =
    omega (arith, row)
  where
    row : h * base + (r + (q + l / base) % base) % base ≡ p * base + (q + r) + l / base
    row = omega arith

pub cut : (a b : ℕ) → (a / base * (b / base) * base + (a / base * (b % base) + a % base * (b / base))) * base + a % base * (b % base) ≡ a * b
cut a b = sym (columns (a / base) (a % base) (b / base) (b % base)) ∙ (λ i. div-add-mod' a base i * div-add-mod' b base i)

-- two numbers of two words compare by their high words first, in any base
pub high_lt : (base ah al bh bl : ℕ) → al < base → ah < bh → ah * base + al < bh * base + bl
high_lt base ah al bh bl k h = lt_of_lt_of_le (digits_lt h k) (le-add_right (bh * base) bl)

times : (s : Bool) (m q : ℕ) → signed s m *ℤ pos q ≡ signed s (m * q)
times false m q = refl
times true zero q = rw (zero-mul q)
times true (suc m) q = refl

pub product : (w n : ℕ) (s : Bool) (m p : ℕ) → int w ≡ signed s m → p ≡ m * n → signed s p ≡ int w *ℤ pos n
product w n s m p e f = sym (ap (λ (z : ℤ). z *ℤ pos n) e ∙ times s m n ∙ ap (signed s) (sym f))
