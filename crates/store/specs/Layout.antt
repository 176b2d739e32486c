-- The layout of the lent state: blocks of rows of 64-bit cells, one behind the other. docs/STATE.md says what each cell holds.
use Rattle.std.specs.Prelude.{ℕ, ◌+◌, ◌*◌, ◌≤◌, ◌<◌, ◌≡◌, List, [], ◌∷◌, length, get_or}
use Rattle.le.specs.Le.{le, put}
use Rattle.words.specs.Words.{modulus}

-- header, accounts, sessions, flights, batch, orders, bids, asks, trades, notices, changed levels, hints, tops, maps of bids, asks and orders
abbrev pub row_counts : List ℕ
row_counts = 1 ∷ 256 ∷ 64 ∷ 256 ∷ 256 ∷ 2048 ∷ 512 ∷ 512 ∷ 256 ∷ 2049 ∷ 1024 ∷ 4096 ∷ 2048 ∷ 8 ∷ 8 ∷ 32 ∷ []

-- cells in a row
abbrev pub row_widths : List ℕ
row_widths = 32 ∷ 16 ∷ 8 ∷ 4 ∷ 12 ∷ 16 ∷ 4 ∷ 4 ∷ 6 ∷ 1 ∷ 3 ∷ 1 ∷ 1 ∷ 1 ∷ 1 ∷ 1 ∷ []

-- the cell at which a block starts, and where the last one ends
abbrev pub starts : List ℕ
starts = 0 ∷ 32 ∷ 4128 ∷ 4640 ∷ 5664 ∷ 8736 ∷ 41504 ∷ 43552 ∷ 45600 ∷ 47136 ∷ 49185 ∷ 52257 ∷ 56353 ∷ 58401 ∷ 58409 ∷ 58417 ∷ 58449 ∷ []

abbrev pub blocks : ℕ
blocks = 16

abbrev pub cells : ℕ
cells = 58449

abbrev pub rows : ℕ → ℕ
rows b = get_or row_counts b 0

abbrev pub width : ℕ → ℕ
width b = get_or row_widths b 0

unfoldable pub start : ℕ → ℕ
start b = get_or starts b 0

-- and its first byte
abbrev pub first_byte : ℕ → ℕ
first_byte b = 8 * get_or starts b 0

-- the cell k of the row i of the block b
pub record Cell (b i k : ℕ) : Type 0 where
  pub block_is : b < blocks
  pub row_is : i < rows b
  pub cell_is : k < width b

-- n cells of that row, from k on
pub record Cells (b i k n : ℕ) : Type 0 where
  pub block_is : b < blocks
  pub row_is : i < rows b
  pub cells_are : k + n ≤ width b

-- a cell's place among all cells, and its number
unfoldable pub spot : ℕ → ℕ → ℕ → ℕ
spot b i k = start b + (width b * i + k)

unfoldable pub cell : List ℕ → ℕ → ℕ → ℕ → ℕ
cell xs b i k = le 8 xs (8 * spot b i k)

-- a state stands in xs, and nothing else
abbrev pub Holds : List ℕ → Type 0
Holds xs = length xs ≡ 8 * cells

-- xs with v in that cell
unfoldable pub store : List ℕ → ℕ → ℕ → ℕ → ℕ → List ℕ
store xs b i k v = put 8 xs (8 * spot b i k) v

-- ys is xs with v in that cell, and holds a state
pub record Set (xs ys : List ℕ) (b i k v : ℕ) : Type 0 where
  pub holds : Holds ys
  pub fits : v < modulus
  pub exact : ys ≡ store xs b i k v
