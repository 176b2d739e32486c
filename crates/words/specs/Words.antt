-- What the words stand for, and what their arithmetic gives, over the integers.
use Rattle.std.specs.Prelude.{Bool, true, false, cond, ℕ, ◌+◌, ◌-◌, ◌*◌, ◌%◌, ℤ, pos, negsuc, neg_ℤ, Option, Some, None}
use Rattle.std.proofs.Math.IntN.{sub_ℕ}
use Rattle.std.specs.Int.Signed.{le_z}
use Rattle.std.specs.Int.{w64}
use Rattle.std.proofs.Common.{of_z, to_z}
use Rattle.words.specs.declared.Signed128.{Signed128}
use Rattle.words.specs.declared.Wide.{Wide}
use Rattle.words.specs.declared.Place as P

-- 2^32 and 2^63
abbrev pub base : ℕ
base = 4294967296

abbrev pub half : ℕ
half = 9223372036854775808

-- 2^64, one past the greatest word
abbrev pub modulus : ℕ
modulus = 18446744073709551616

-- the ends of 64 bits signed
abbrev pub least : ℤ
least = negsuc (half - 1)

abbrev pub most : ℤ
most = pos (half - 1)

-- a word's number, in two's complement; shut, so that a goal names it and does not compute it
unfoldable pub int : ℕ → ℤ
int w = to_z w64 w

-- the integer p − q, shut so that laws rewrite it
infixl 6 ◌⊖◌
unfoldable pub ◌⊖◌ : ℕ → ℕ → ℤ
p ⊖ q = sub_ℕ p q

abbrev pub wide : Wide → ℕ
wide w = w.hi * modulus + w.lo

-- a number by its sign and its size
abbrev pub signed : Bool → ℕ → ℤ
signed true n = neg_ℤ (pos n)
signed false n = pos n

abbrev pub value : Signed128 → ℤ
value s = signed s.neg (wide s.size)

-- where an integer lies: in 64 bits signed, or past one of the ends
pub data Place : Type 0 where
  inside : ℤ → Place
  above : Place
  below : Place

unfoldable pub place_of : ℤ → Place
place_of z = cond (le_z least z) (cond (le_z z most) (inside z) above) below

abbrev pub fit_in : Place → Option ℤ
fit_in (inside z) = Some z
fit_in above = None
fit_in below = None

abbrev pub nearest_to : Place → ℤ
nearest_to (inside z) = z
nearest_to above = most
nearest_to below = least

-- the number if it fits 64 bits signed, and the nearest one that does
abbrev pub fit : ℤ → Option ℤ
fit z = fit_in (place_of z)

abbrev pub clamp : ℤ → ℤ
clamp z = nearest_to (place_of z)

-- the word of a number that fits, and of any number, modulo 2^64
abbrev pub word_of : ℤ → ℕ
word_of z = of_z w64 z

unfoldable pub wrap : ℤ → ℕ
wrap (pos n) = n % modulus
wrap (negsuc n) = modulus - 1 - n % modulus

-- what the code's answers say
abbrev pub amount : Option ℕ → Option ℤ
amount (Some w) = Some (int w)
amount None = None

abbrev pub placed : P.Place → Place
placed (P.TheVariants.In w) = inside (int w)
placed P.TheVariants.Above = above
placed P.TheVariants.Below = below
