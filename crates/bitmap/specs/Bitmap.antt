-- A bit for each row of a table, 64 in a cell: 1 where the row is taken. The bits of a table are the cells 0 of a block's rows.
use Rattle.std.specs.Prelude.{ℕ, zero, suc, ◌+◌, ◌*◌, ◌-◌, ◌/◌, ◌%◌, ◌^◌, ◌≤◌, ◌<◌, ◌≡◌, cond, ltb}
use Rattle.std.specs.Int.Bits.{bit_or, bit_xor}
use Rattle.store.specs.Layout.{blocks, rows, width}
use Rattle.store.specs.View.{Store, write}
use Rattle.words.specs.Words.{modulus}

-- ---- a word

-- the bit k of w
abbrev pub digit : ℕ → ℕ → ℕ
digit w k = w / 2 ^ k % 2

-- the bits of w from i up to k are 1
abbrev pub Ones : ℕ → ℕ → ℕ → Type 0
Ones w i k = (j : ℕ) → i ≤ j → j < k → digit w j ≡ 1

-- r is the first bit from k on that is 0, or 64
pub record FirstZero (w k r : ℕ) : Type 0 where
  pub from : k ≤ r
  pub to : r ≤ 64
  pub ones : Ones w k r
  pub zero_at : r < 64 → digit w r ≡ 0

-- r is one more than the last bit before k that is 0, or 0
pub record LastZero (w k r : ℕ) : Type 0 where
  pub to : r ≤ k
  pub ones : Ones w r k
  pub zero_at : 0 < r → digit w (r - 1) ≡ 0

-- w with v, which is 0 or 1, for the bit k
abbrev pub with_digit : ℕ → ℕ → ℕ → ℕ
with_digit w k v = let mask = 2 ^ k in bit_or (bit_xor (bit_or w mask) mask) (v * mask % modulus)

-- ---- a block

-- the block b has n bits
pub record Map (b n : ℕ) : Type 0 where
  pub block_is : b < blocks
  pub wide : 0 < width b
  pub size : n ≡ 64 * rows b

unfoldable pub bit : ℕ → Store → ℕ → ℕ
bit b s j = digit (s b (j / 64) 0) (j % 64)

-- the map has, for each of n rows, whether it is taken: 1 where it is, else 0
pub record Mapped (b n : ℕ) (s : Store) (taken : ℕ → ℕ) : Type 0 where
  pub bits : (j : ℕ) → j < n → bit b s j ≡ taken j

-- the cell of the bit j with v for it, and s with that
unfoldable pub put_cell : ℕ → ℕ → ℕ → Store → ℕ
put_cell b j v s = with_digit (s b (j / 64) 0) (j % 64) v

abbrev pub put_bit : ℕ → ℕ → ℕ → Store → Store
put_bit b j v s = write b (j / 64) 0 (put_cell b j v s) s

-- s with 0 in the first g cells
unfoldable pub emptied : ℕ → ℕ → Store → Store
emptied b zero s = s
emptied b (suc g) s = write b g 0 0 (emptied b g s)

-- the rows from i up to j are taken
abbrev pub Taken : ℕ → Store → ℕ → ℕ → Type 0
Taken b s i j = (a : ℕ) → i ≤ a → a < j → bit b s a ≡ 1

-- r is the first row from j on that is not taken, or n
pub record FirstFree (b : ℕ) (s : Store) (n j r : ℕ) : Type 0 where
  pub from : j ≤ r
  pub to : r ≤ n
  pub taken : Taken b s j r
  pub free : r < n → bit b s r ≡ 0

-- r is one more than the last row before j that is not taken, or 0
pub record LastFree (b : ℕ) (s : Store) (j r : ℕ) : Type 0 where
  pub to : r ≤ j
  pub taken : Taken b s r j
  pub free : 0 < r → bit b s (r - 1) ≡ 0

-- how far the row a is from the place j: 0, 2, 4, .. from j on, and 1, 3, 5, .. before it
abbrev pub far : ℕ → ℕ → ℕ
far j a = cond (ltb a j) (2 * (j - 1 - a) + 1) (2 * (a - j))

-- d is not taken, and every row that is nearer to j is; all n are taken where d is n
pub record Nearest (b : ℕ) (s : Store) (n j d : ℕ) : Type 0 where
  pub to : d ≤ n
  pub free : d < n → bit b s d ≡ 0
  pub near : (a : ℕ) → a < n → far j a < far j d → bit b s a ≡ 1
  pub full : d ≡ n → Taken b s 0 n
