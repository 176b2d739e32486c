-- The table of orders: what a lookup finds, and what each operation writes, as a store.
use Rattle.std.specs.Prelude.{ℕ, zero, suc, ◌+◌, ◌*◌, ◌-◌, ◌/◌, ◌%◌, ◌^◌, ◌≤◌, ◌<◌, ◌≡◌, cond, ◌&&◌, List, [], ◌∷◌, eqb, ltb, length, get_or, Option}
use Rattle.std.specs.Int.Bits.{bit_or, bit_xor}
use Rattle.table.specs.Live.{look, kept, Ascends}
use Rattle.table.specs.Table.{Finds, found}
use Rattle.words.specs.Words.{modulus, int}
use Rattle.gateway.specs.Depth as D
use Rattle.gateway.specs.Ledger.{Order}
use Rattle.store.specs.Cells as C
use Rattle.store.specs.Layout.{Cell}
use Rattle.store.specs.View.{Row, Store, word, write, fill, side, maybe_price, order, resting, marked, order_room, Bounds}
use Rattle.bitmap.specs.Bitmap.{put_bit, Mapped}
use Rattle.orders.specs.declared.Live.{Live}
use Rattle.orders.specs.declared.Resting.{Resting}

-- ---- rows

-- a row whose flags are a and b is kept where one of them is 1
abbrev pub either : ℕ → ℕ → ℕ
either zero b = b
either (suc a) b = 1

-- the flags of a row
pub record Flags (r : Row) : Type 0 where
  pub live_is : r C.order_live ≤ 1
  pub resting_is : r C.order_resting ≤ 1
  pub kept_is : r C.order_kept ≡ either (r C.order_live) (r C.order_resting)

-- numbers ascend, and each row in use has its flags
pub record Sorted (s : Store) : Type 0 where
  pub ascends : Ascends (λ k. k) (λ j. s C.orders j C.order_number) (word s C.order_rows)
  pub flags : (j : ℕ) → j < word s C.order_rows → Flags (s C.orders j)

-- the two counts are right
pub record Counted (s : Store) : Type 0 where
  pub live_count : word s C.live_orders ≡ length (marked s C.order_live order)
  pub resting_count : word s C.resting_orders ≡ length (marked s C.order_resting resting)

-- whether the row j is in use and kept
abbrev pub kept_at : Store → ℕ → ℕ
kept_at s j = cond (ltb j (word s C.order_rows)) (s C.orders j C.order_kept) 0

-- and the map says so of each row
abbrev pub KeptMap : Store → Type 0
KeptMap s = Mapped C.order_map order_room s (kept_at s)

-- the table is in order
pub record Ordered (s : Store) : Type 0 where
  pub bounds : Bounds s
  pub sorted : Sorted s
  pub counted : Counted s
  pub mapped : KeptMap s

-- the cell k of a row in use is 0 or 1
pub record Marks (k : ℕ) (s : Store) : Type 0 where
  pub inside : k < 16
  pub small : (j : ℕ) → j < word s C.order_rows → s C.orders j k ≤ 1

-- ---- lookups

-- the two halves of a row, as words
abbrev pub live_row : Row → Live
live_row r =
    record {
      account = r C.order_account;
      client_ref = r C.order_client_ref;
      side = r C.order_side;
      priced = r C.order_priced;
      price = r C.order_price;
      leaves = r C.order_leaves;
      hold = r C.order_hold;
    }

abbrev pub resting_row : Row → Resting
resting_row r =
    record { side = r C.order_rest_side; price = r C.order_rest_price; visible = r C.order_visible; leaves = r C.order_rest_leaves }

-- the orders of a number, with these words
abbrev pub order_of : ℕ → Live → Order
order_of n o =
    record {
      number = n;
      account = o.account;
      client_ref = o.client_ref;
      side = side o.side;
      price = maybe_price o.priced o.price;
      leaves = o.leaves;
    }

abbrev pub resting_of : ℕ → Resting → D.Resting
resting_of n o = record { number = n; side = side o.side; price = int o.price; visible = o.visible; leaves = o.leaves }

abbrev pub number_at : ℕ → Store → ℕ
number_at i s = s C.orders i C.order_number

-- of the rows in use, the one that bears the number n and whose cell k is not 0
abbrev pub FindsRow : ℕ → Store → ℕ → Option ℕ → Type 0
FindsRow k s n r = Finds (λ j. s C.orders j C.order_number) (λ j. s C.orders j k) (word s C.order_rows) n r

-- and it is what the list of those rows has at n, as f reads them
pub record Sees {A : Type 0} (k : ℕ) (f : Row → A) (number : A → ℕ) (s : Store) (n : ℕ) (r : Option ℕ) : Type 0 where
  pub row : FindsRow k s n r
  pub order : look number n (marked s k f) ≡ found (λ j. f (s C.orders j)) r

-- the rows of t stand where they stand in s: a place is still its number's
pub record Stays (s t : Store) : Type 0 where
  pub rows_are : word t C.order_rows ≡ word s C.order_rows
  pub numbers_are : (j : ℕ) → j < word s C.order_rows → number_at j t ≡ number_at j s

-- the hints, of 16 bits each: a number has that of its remainder k, which stands in the cell k / 4, from the bit 16 * (k % 4) on
abbrev pub hint_slots : ℕ
hint_slots = 16384

abbrev pub hint_at : ℕ → ℕ
hint_at n = n % hint_slots / 4

abbrev pub hint_bit : ℕ → ℕ
hint_bit n = 16 * (n % hint_slots % 4)

unfoldable pub hint_of : ℕ → Store → ℕ
hint_of n s = s C.hints (hint_at n) C.hint_four / 2 ^ hint_bit n % 65536

-- the word w with i in the 16 bits from b on
abbrev pub with_hint : ℕ → ℕ → ℕ → ℕ
with_hint w b i = let mask = 65535 * 2 ^ b % modulus in bit_or (bit_xor (bit_or w mask) mask) (i * 2 ^ b % modulus)

abbrev pub set_hint : ℕ → ℕ → Store → Store
set_hint n i s = write C.hints (hint_at n) C.hint_four (with_hint (s C.hints (hint_at n) C.hint_four) (hint_bit n) i) s

-- ---- what is written

abbrev pub set_leaves : ℕ → ℕ → ℕ → Store → Store
set_leaves i leaves hold = fill C.orders i C.order_leaves (leaves ∷ hold ∷ [])

-- an order's price, what it has open, and what it holds
abbrev pub revise : ℕ → ℕ → ℕ → ℕ → ℕ → Store → Store
revise i priced price leaves hold = fill C.orders i C.order_priced (priced ∷ price ∷ leaves ∷ hold ∷ [])

abbrev pub show : ℕ → ℕ → ℕ → Store → Store
show i visible leaves = fill C.orders i C.order_visible (visible ∷ leaves ∷ [])

-- the bit of the row i is v
abbrev pub set_bit : ℕ → ℕ → Store → Store
set_bit = put_bit C.order_map

-- the flag k of a row goes, and its count c falls; the row is kept where the other flag is 1
unfoldable pub strike : ℕ → ℕ → ℕ → ℕ → Store → Store
strike k other c i s =
    set_bit i (s C.orders i other)
    (write C.header 0 c (word s c - 1) (write C.orders i C.order_kept (s C.orders i other) (write C.orders i k 0 s)))

abbrev pub retire : ℕ → Store → Store
retire = strike C.order_live C.order_resting C.live_orders

abbrev pub take_off : ℕ → Store → Store
take_off = strike C.order_resting C.order_live C.resting_orders

-- an order of the table rests; its level may be in the row l
unfoldable pub rest : ℕ → Resting → ℕ → Store → Store
rest i o l s =
    set_bit i 1
    (write C.header 0 C.resting_orders (word s C.resting_orders + 1)
    (fill C.orders i C.order_resting (1 ∷ 1 ∷ [])
    (fill C.orders i C.order_rest_side (o.side ∷ o.price ∷ o.visible ∷ o.leaves ∷ l ∷ []) s)))

-- a live order behind the others
unfoldable pub append : ℕ → Live → Store → Store
append n o s =
    let i = word s C.order_rows in
    set_bit i 1
    (set_hint n i
    (fill C.header 0 C.order_rows ((i + 1) ∷ (word s C.live_orders + 1) ∷ [])
    (fill C.orders i C.order_number
    (n ∷ 1 ∷ 0 ∷ 1 ∷ o.account ∷ o.client_ref ∷ o.side ∷ o.priced ∷ o.price ∷ o.leaves ∷ o.hold ∷ []) s)))

-- the places of the rows that are kept
abbrev pub places : Store → List ℕ
places s = kept (λ j. s C.orders j C.order_kept) (word s C.order_rows)

-- the rows at those places, from the first row on
unfoldable pub packed : Store → Store
packed s b i k = cond (eqb b C.orders) (s C.orders (cond (ltb i (length (places s))) (get_or (places s) i 0) i) k) (s b i k)

-- the tombstones are squeezed out
unfoldable pub compact : Store → Store
compact s = write C.header 0 C.order_rows (length (places s)) (packed s)

-- the hint of the row i, and of the first n rows
unfoldable pub hint : ℕ → Store → Store
hint i s = set_hint (s C.orders i C.order_number) i s

unfoldable pub hint_rows : ℕ → Store → Store
hint_rows zero s = s
hint_rows (suc n) s = hint n (hint_rows n s)

-- the bit of the row i as its row says, which is 0 or 1, and those of the first n rows
unfoldable pub map_row : ℕ → Store → Store
map_row i s = set_bit i (kept_at s i % 2) s

unfoldable pub map_rows : ℕ → Store → Store
map_rows zero s = s
map_rows (suc n) s = map_row n (map_rows n s)

-- the map made anew
unfoldable pub remap : Store → Store
remap s b i k = cond (eqb b C.order_map) (map_rows order_room s b i k) (s b i k)

-- the word g of a map whose first n bits are 1, and the first w words of that map
abbrev pub ones : ℕ → ℕ → ℕ
ones n g = cond (ltb (n - 64 * g) 64) (2 ^ (n - 64 * g) - 1) (modulus - 1)

unfoldable pub map_words : ℕ → ℕ → Store → Store
map_words w n s b i k = cond (eqb b C.order_map && ltb i w) (ones n i) (s b i k)

-- the rows that are left are all kept
unfoldable pub squeeze : Store → Store
squeeze s = map_words 32 (length (places s)) (hint_rows (length (places s)) (compact s))

-- room for one row more: a table that is full is squeezed
unfoldable pub make_room : Store → Store
make_room s = cond (ltb (word s C.order_rows) order_room) s (squeeze s)

-- ---- a row between others

-- where a new row stands that i rows are below: one place lower where the tombstone d, which it takes, is one of them
abbrev pub new_place : ℕ → ℕ → ℕ
new_place d i = cond (ltb d i) (i - 1) i

-- the row that stands at j, but for p, once those between d and p have moved one place, over d
abbrev pub moved : ℕ → ℕ → ℕ → ℕ
moved d p j = cond (ltb p j) (cond (ltb d j) j (j - 1)) (cond (ltb j d) j (j + 1))

unfoldable pub opened : ℕ → ℕ → Store → Store
opened d p s b j k = cond (eqb b C.orders) (s C.orders (moved d p j) k) (s b j k)

-- t is that, but for the row p
pub record MadeWay (d p : ℕ) (s t : Store) : Type 0 where
  pub same : (b j k : ℕ) → Cell b j k → (b ≡ C.orders → j ≡ p → ⊥) → t b j k ≡ opened d p s b j k

-- how many rows are in use with d, which is one of n in use or the one behind them
abbrev pub rows_with : ℕ → ℕ → ℕ
rows_with d n = cond (ltb d n) n (d + 1)

-- a row of zeros, but for its number
abbrev pub tombstone : ℕ → List ℕ
tombstone n = n ∷ 0 ∷ 0 ∷ 0 ∷ 0 ∷ 0 ∷ 0 ∷ 0 ∷ 0 ∷ 0 ∷ 0 ∷ 0 ∷ 0 ∷ 0 ∷ 0 ∷ 0 ∷ []

-- a tombstone with the number n at p, for the tombstone d
unfoldable pub open_row : ℕ → ℕ → ℕ → Store → Store
open_row d p n s =
    set_hint n p
    (set_bit p 0
    (set_bit d 1
    (write C.header 0 C.order_rows (rows_with d (word s C.order_rows))
    (fill C.orders p C.order_number (tombstone n) (opened d p s)))))
