-- What a sum of words stands for.
use Rattle.std.specs.Prelude.{ℕ, ◌+◌, ◌*◌, ◌/◌, ◌%◌, ◌≤◌, ◌<◌, ◌≡◌, Bool, ℤ}
use Rattle.words.specs.Words.{base, half, modulus, ◌⊖◌}
use Rattle.gateway.specs.Ledger.{fits}
use Rattle.sums.specs.declared.Sum.{Sum}

-- s is the sum z of k words, each raised by 2^63
pub record Sums (k : ℕ) (z : ℤ) (s : Sum) : Type 0 where
  pub total : z ≡ (s.high * base + s.low) ⊖ (k * half)
  pub high_few : s.high ≤ k * base
  pub low_few : s.low ≤ k * base

-- room for one word more
pub record HasRoom (s : Sum) : Type 0 where
  pub high_room : s.high + base < modulus
  pub low_room : s.low + base < modulus

-- few enough words to judge
pub record Small (k : ℕ) (s : Sum) : Type 0 where
  pub few : k < base
  pub high_small : s.high + base < half
  pub low_small : s.low + base < half

-- r is s and one word more, of the number z
pub record Adds (s : Sum) (z : ℤ) (r : Sum) : Type 0 where
  pub raised : ℕ
  pub number : z ≡ raised ⊖ half
  pub small : raised < modulus
  pub high_is : r.high ≡ s.high + raised / base
  pub low_is : r.low ≡ s.low + raised % base

-- b is whether a sum of k words fits 64 bits signed
pub record Judges (k : ℕ) (s : Sum) (b : Bool) : Type 0 where
  pub is : (z : ℤ) → Sums k z s → b ≡ fits z
