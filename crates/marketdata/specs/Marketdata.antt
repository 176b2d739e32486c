-- Resting orders and their levels: the rows that the operations speak of, and what they ask. An order's words are as in docs/STATE.md.
use Rattle.std.specs.Prelude.{ℕ, ◌≤◌, ◌<◌, ◌≡◌, Bool, true, false, ◌&&◌, List, ltb, leb, ℤ, length, None}
use Rattle.orderbook.specs.declared.Side.{Side}
use Rattle.table.specs.Table.{Between}
use Rattle.gateway.specs.Limits.{most_orders, most_changed}
use Rattle.gateway.specs.Depth.{Depth, Key, level, key_of, same_price, find_resting, where_resting, remember, levels_fit, depth_few}
use Rattle.gateway.specs.Depth as D
use Rattle.gateway.specs.Rest.{pending}
use Rattle.gateway.specs.Calls.{Gateway}
use Rattle.store.specs.Cells as C
use Rattle.store.specs.Layout.{cell}
use Rattle.store.specs.View.{Store, resting, depth, gateway}
use Rattle.store.specs.View as View
use Rattle.orders.specs.declared.Resting.{Resting}
use Rattle.orders.specs.Orders.{resting_row}
use Rattle.levels.specs.declared.Row.{Row}
use Rattle.levels.specs.Levels as L
use Rattle.sound.specs.Sound.{Becomes}
use Rattle.words.specs.Words.{modulus}

-- the row i is that of the resting order o
pub record At (i : ℕ) (o : Resting) (s : Store) : Type 0 where
  pub inside : i < View.word s C.order_rows
  pub rests : 0 < s C.orders i C.order_resting
  pub is : o ≡ resting_row (s C.orders i)

-- the row i bears the number n, and no order rests there
pub record Free (i n : ℕ) (s : Store) : Type 0 where
  pub inside : i < View.word s C.order_rows
  pub number_is : s C.orders i C.order_number ≡ n
  pub free : s C.orders i C.order_resting ≡ 0

-- the order of the row i
abbrev pub resting_at : ℕ → Store → D.Resting
resting_at i s = resting (s C.orders i)

-- an order's words as one
abbrev pub words : ℕ → ℕ → ℕ → ℕ → Resting
words side price visible leaves = record { side = side; price = price; visible = visible; leaves = leaves }

-- i is the place of the level at a price
abbrev pub Placed : Side → ℤ → List ℕ → ℕ → Type 0
Placed z p xs i = (k : ℕ) → L.price k ≡ p → L.Sought z xs k i

-- r has the quantity and the number of orders of the level at a price
pub record IsLevel (z : Side) (p : ℤ) (d : Depth) (r : Row) : Type 0 where
  pub price_is : (level (z, p) d).price ≡ p
  pub qty_is : r.qty ≡ (level (z, p) d).qty
  pub orders_is : r.orders ≡ (level (z, p) d).orders
  pub few : r.orders ≤ most_orders

-- ---- the gateway with another depth

abbrev pub with_depth : (Depth → Depth) → Gateway → Gateway
with_depth f g = record { core = g.core; rest = pending (f g.rest.depth) g.rest.trades g.rest.notices g.rest }

abbrev pub with_resting : (List D.Resting → List D.Resting) → Depth → Depth
with_resting f d = record { resting = f d.resting; changed = d.changed }

abbrev pub remembering : Key → Depth → Depth
remembering k d = record { resting = d.resting; changed = remember k d.changed }

-- ---- what the judging establishes of the depth after an operation

-- code 5: room for the changed levels
abbrev pub Roomy : Depth → Type 0
Roomy d = length d.changed ≤ most_changed

-- code 7: where the order r shows more than v, its level is in range
abbrev pub Fits : ℕ → D.Resting → Depth → Type 0
Fits v r d = (v < r.visible → (level (key_of r) d).qty < modulus)

-- an order that showed v is r now
pub record CanShow (v : ℕ) (r : D.Resting) (d : Depth) : Type 0 where
  pub fits : Fits v r (D.show r d)
  pub room : Roomy (D.show r d)

-- codes 7 and 5: every level is in range, and there is room
pub record Judged (d : Depth) : Type 0 where
  pub fits : levels_fit d.resting ≡ true
  pub few : depth_few d ≡ true

-- an order that comes: code 8, that it does not rest yet; no order has a later number than the last
pub record CanAdd (r : D.Resting) (s : Store) : Type 0 where
  pub absent : find_resting r.number (depth s).resting ≡ None
  pub at_most_last : r.number ≤ View.word s C.last
  pub judged : Judged (D.add r (depth s))

-- ---- a row for an order that comes

-- what it asks of the number
pub record CanOpen (n : ℕ) (s : Store) : Type 0 where
  pub absent : find_resting n (depth s).resting ≡ None
  pub at_most_last : n ≤ View.word s C.last
  pub room : View.word s C.resting_orders < most_orders

-- no row bears the number n
abbrev pub Missing : ℕ → Store → Type 0
Missing n s = (j : ℕ) → j < View.word s C.order_rows → s C.orders j C.order_number ≡ n → ⊥

-- whether the row i bears it, by the answer
abbrev pub Bears : ℕ → ℕ → Store → Bool → Type 0
Bears i n s true = (i < View.word s C.order_rows) × (s C.orders i C.order_number ≡ n)
Bears i n s false = (i < View.word s C.order_rows → s C.orders i C.order_number ≡ n → ⊥)

-- i is the first row whose number is not below n
abbrev pub Sought : ℕ → ℕ → Store → Type 0
Sought i n s = Between (λ j. s C.orders j C.order_number) (View.word s C.order_rows) n i i

-- the row i of ys can take the order n, and the gateway is that of xs
pub record Opens (xs ys : List ℕ) (n i : ℕ) : Type 0 where
  pub same : Becomes ys (gateway (cell xs))
  pub free : Free i n (cell ys)

-- ---- events

-- an iceberg shows its next part
abbrev pub replenished : ℕ → D.Resting → Depth → Depth
replenished v o = D.show (D.showing v o.leaves o)

-- whether an order of price x with n open stays in place when a modify gives it price p with v open
abbrev pub stays : ℤ → ℕ → ℤ → ℕ → Bool
stays p v x n = ltb 0 v && (same_price p x && leb v n)

-- what a fill asks: code 8, that it is at most what the order shows; code 5
pub record CanFill (n q v : ℕ) (d : Depth) : Type 0 where
  pub shows : D.shows n q d.resting ≡ true
  pub room : Roomy (where_resting n (D.filled q v) d)

-- of a trade's orders, with what is left of each; code 8, that they are two
abbrev pub traded : ℕ → ℕ → ℕ → ℕ → ℕ → Depth → Depth
traded taker maker q tl ml d = where_resting taker (D.filled q tl) (where_resting maker (D.filled q ml) d)

pub record CanTrade (taker maker q tl ml : ℕ) (d : Depth) : Type 0 where
  pub two : (taker ≡ maker → ⊥)
  pub taker_shows : D.shows taker q d.resting ≡ true
  pub maker_shows : D.shows maker q d.resting ≡ true
  pub room : Roomy (traded taker maker q tl ml d)
