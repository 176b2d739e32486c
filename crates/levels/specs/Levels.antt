-- The stored levels of a side: rows ascending by key, and what each operation makes of their list. A row without orders is dead: it stands
-- for no level, and is there to be taken by one.
use Rattle.std.specs.Prelude.{◌≡◌, Bool, true, false, cond, List, [], ◌∷◌, ◌++◌, ℕ, ◌+◌, ◌-◌, ◌≤◌, ◌<◌, eqb, ltb, length, ℤ, Option, Some, None}
use Rattle.orderbook.specs.declared.Side.{Side}
use Rattle.orderbook.specs.declared.Side.TheVariants.{Buy, Sell}
use Rattle.words.specs.Words.{half, ◌⊖◌, modulus}
use Rattle.table.specs.Live.{live, look, insert, replace, without, Ascends}
use Rattle.table.specs.Table.{Between}
use Rattle.gateway.specs.Basics.{option}
use Rattle.gateway.specs.Limits.{most_levels}
use Rattle.gateway.specs.Depth.{Level}
use Rattle.store.specs.Cells as C
use Rattle.store.specs.Layout.{first_byte, cell, Cell, Holds}
use Rattle.store.specs.View.{Store, word}
use Rattle.bitmap.specs.Bitmap.{bit, Mapped}
use Rattle.levels.specs.declared.Row.{Row}

-- ---- where they stand

abbrev pub block : Side → ℕ
block Buy = C.bids
block Sell = C.asks

-- its map: a bit for each row, 1 where it is a level
abbrev pub map_block : Side → ℕ
map_block Buy = C.bid_map
map_block Sell = C.ask_map

-- the header's cells: how many rows are in use, and how many levels there are
abbrev pub used_cell : Side → ℕ
used_cell Buy = C.bid_rows
used_cell Sell = C.ask_rows

abbrev pub size_cell : Side → ℕ
size_cell Buy = C.bid_levels
size_cell Sell = C.ask_levels

-- the block's first byte
abbrev pub base : Side → ℕ
base Buy = first_byte C.bids
base Sell = first_byte C.asks

abbrev pub key : Row → ℕ
key r = r.key

abbrev pub row : Side → Store → ℕ → Row
row s t i =
    record { key = t (block s) i C.level_price; qty = t (block s) i C.level_qty; orders = t (block s) i C.level_orders }

abbrev pub orders : Row → ℕ
orders r = r.orders

unfoldable pub used : Side → Store → ℕ
used s t = word t (used_cell s)

unfoldable pub size : Side → Store → ℕ
size s t = word t (size_cell s)

abbrev pub bits : Side → Store → ℕ → ℕ
bits s t = bit (map_block s) t

-- whether the row j of n in use is a level, as 0 or 1
abbrev pub is_level : (ℕ → Row) → ℕ → ℕ → ℕ
is_level f n j = cond (ltb j n) (cond (eqb (f j).orders 0) 0 1) 0

unfoldable pub entries : Side → Store → List Row
entries s t = live orders (row s t) (used s t)

-- ---- what they stand for

-- a key is a price raised by 2^63
abbrev pub price : ℕ → ℤ
price k = k ⊖ half

abbrev pub level : Row → Level
level r = record { price = price r.key; qty = r.qty; orders = r.orders }

-- best price first: the asks in their order, the bids from the last to the first
abbrev pub best : Side → List Row → List Level
best Sell [] = []
best Sell (r ∷ l) = level r ∷ best Sell l
best Buy [] = []
best Buy (r ∷ l) = best Buy l ++ (level r ∷ [])

-- ---- what is known before and after

pub record Table (s : Side) (xs : List ℕ) : Type 0 where
  pub holds : Holds xs
  pub few : used s (cell xs) ≤ most_levels
  pub asc : Ascends key (row s (cell xs)) (used s (cell xs))
  pub counted : size s (cell xs) ≡ length (entries s (cell xs))
  pub mapped : Mapped (map_block s) most_levels (cell xs) (is_level (row s (cell xs)) (used s (cell xs)))

-- that cell of the header is none of the side's two
abbrev pub Other : Side → ℕ → ℕ → Type 0
Other s b k = (b ≡ C.header → k ≡ used_cell s → ⊥) × (b ≡ C.header → k ≡ size_cell s → ⊥)

-- every cell but those of the side's block, its map and its counts is as before
abbrev pub Kept : Side → List ℕ → List ℕ → Type 0
Kept s xs ys = (b i k : ℕ) → Cell b i k → (b ≡ block s → ⊥) → (b ≡ map_block s → ⊥) → Other s b k → cell ys b i k ≡ cell xs b i k

-- the counts are u and v now, and the bit of the row d is x; nothing else has changed
pub record Recounted (s : Side) (xs ys : List ℕ) (u v d x : ℕ) : Type 0 where
  pub holds : Holds ys
  pub used_is : used s (cell ys) ≡ u
  pub size_is : size s (cell ys) ≡ v
  pub bit_is : bits s (cell ys) d ≡ x
  pub bits_are : (j : ℕ) → j < most_levels → (j ≡ d → ⊥) → bits s (cell ys) j ≡ bits s (cell xs) j
  pub kept : (b i k : ℕ) → Cell b i k → (b ≡ map_block s → ⊥) → Other s b k → cell ys b i k ≡ cell xs b i k

-- the side's rows are l now
pub record Did (s : Side) (xs ys : List ℕ) (l : List Row) : Type 0 where
  pub table : Table s ys
  pub list : entries s (cell ys) ≡ l
  pub kept : Kept s xs ys

-- i is the first row whose key is not below k
abbrev pub Sought : Side → List ℕ → ℕ → ℕ → Type 0
Sought s xs k i = Between (λ j. (row s (cell xs) j).key) (used s (cell xs)) k i i

-- whether it is, by the answer
abbrev pub IsFirst : Side → List ℕ → ℕ → ℕ → Bool → Type 0
IsFirst s xs k i true = Sought s xs k i
IsFirst s xs k i false = (Sought s xs k i → ⊥)

-- what is found of the level k at i, by the answer
abbrev pub IsAt : Side → List ℕ → ℕ → ℕ → Bool → Type 0
IsAt s xs i k true = (i < used s (cell xs)) × (look key k (entries s (cell xs)) ≡ Some (row s (cell xs) i)) × (0 < (row s (cell xs) i).orders)
IsAt s xs i k false = look key k (entries s (cell xs)) ≡ None

-- what is found of the level k
abbrev pub Finds : Side → List ℕ → ℕ → Option ℕ → Type 0
Finds s xs k (Some i) = IsAt s xs i k true
Finds s xs k None = look key k (entries s (cell xs)) ≡ None

-- the level k is not there, and i is its place
pub record Place (s : Side) (xs : List ℕ) (k i : ℕ) : Type 0 where
  pub table : Table s xs
  pub room : size s (cell xs) < most_levels
  pub sought : Sought s xs k i
  pub absent : look key k (entries s (cell xs)) ≡ None

-- the rows from i up to d are live
abbrev pub Alive : Side → List ℕ → ℕ → ℕ → Type 0
Alive s xs i d = (j : ℕ) → i ≤ j → j < d → 0 < (row s (cell xs) j).orders

-- d is a dead row, or the number of rows in use where one more fits; and the rows between it and i are live, i among them
pub record Free (s : Side) (xs : List ℕ) (i d : ℕ) : Type 0 where
  pub to : d ≤ used s (cell xs)
  pub fits : d < most_levels
  pub dead : d < used s (cell xs) → (row s (cell xs) d).orders ≡ 0
  pub up : Alive s xs i d
  pub down : Alive s xs (d + 1) i
  pub live : (d ≡ i → ⊥) → i < used s (cell xs) → 0 < (row s (cell xs) i).orders

-- how many rows are in use once the row d is
abbrev pub grown : ℕ → ℕ → ℕ
grown n d = cond (ltb d n) n (d + 1)

-- ---- what the operations make of a list

abbrev pub opened : ℕ → ℕ → Row
opened k v = record { key = k; qty = v; orders = 1 }

abbrev pub one_more : ℕ → Row → Row
one_more v r = record { key = r.key; qty = r.qty + v; orders = r.orders + 1 }

abbrev pub changed : ℕ → ℕ → Row → Row
changed v w r = record { key = r.key; qty = r.qty - v + w; orders = r.orders }

abbrev pub one_less : ℕ → Row → Row
one_less v r = record { key = r.key; qty = r.qty - v; orders = r.orders - 1 }

abbrev pub added : ℕ → ℕ → List Row → List Row
added k v l = option (insert key (opened k v) l) (λ r. replace key (one_more v r) l) (look key k l)

abbrev pub shown : ℕ → ℕ → ℕ → List Row → List Row
shown k v w l = option l (λ r. replace key (changed v w r) l) (look key k l)

abbrev pub removed : ℕ → ℕ → List Row → List Row
removed k v l = option l (λ r. cond (eqb r.orders 1) (without key k l) (replace key (one_less v r) l)) (look key k l)

-- ---- what the judging establishes: room for a new level, and numbers in range

abbrev pub Joins : ℕ → Row → Type 0
Joins v r = (r.qty + v < modulus) × (r.orders + 1 < modulus)

abbrev pub CanAdd : ℕ → ℕ → Option Row → Type 0
CanAdd n v None = n < most_levels
CanAdd n v (Some r) = Joins v r

-- a stored quantity is a number of 64 bits, so that one that falls stays in range
abbrev pub CanShow : ℕ → ℕ → Option Row → Type 0
CanShow v w None = ⊥
CanShow v w (Some r) = (v ≤ r.qty) × (r.qty < modulus → r.qty - v + w < modulus)

abbrev pub CanRemove : ℕ → Option Row → Type 0
CanRemove v None = ⊥
CanRemove v (Some r) = (v ≤ r.qty) × (0 < r.orders)
