-- The representation invariant: rows in use stand in their blocks, tables are in order, and each cache is what the definitions derive.
use Rattle.std.specs.Prelude.{ℕ, ◌≤◌, ◌<◌, ◌≡◌, List, ℤ, length}
use Rattle.orderbook.specs.declared.Side.{Side}
use Rattle.orderbook.specs.declared.Side.TheVariants.{Buy, Sell}
use Rattle.words.specs.Words.{int, wrap}
use Rattle.table.specs.Live.{Ascends}
use Rattle.gateway.specs.Limits.{owner_slots, most_orders, most_levels}
use Rattle.gateway.specs.Ledger.{order_hold, held, open_of}
use Rattle.gateway.specs.Depth as Depth
use Rattle.gateway.specs.Calls.{Gateway}
use Rattle.store.specs.Cells as C
use Rattle.store.specs.Layout.{cell, Holds}
use Rattle.store.specs.View.{Row, Store, word, order, ledger, depth, gateway}
use Rattle.pending.specs.Pending.{BatchFits, Chained}
use Rattle.clients.specs.Clients.{Limited, Linked}
use Rattle.orders.specs.Orders.{Ordered, Stays}
use Rattle.bitmap.specs.Bitmap.{Mapped}
use Rattle.levels.specs.Levels.{key, map_block, row, used, size, is_level, entries, best}

-- ---- what is counted from the live orders

-- the row of a live order stores what the order holds, and its account has a row
pub record Stored (fee : ℤ) (r : Row) : Type 0 where
  pub hold_is : int (r C.order_hold) ≡ order_hold fee (order r)
  pub owner_is : r C.order_account < owner_slots

-- what an account's orders of a side hold: cash for buys, seats for sells
abbrev pub held_cell : Side → ℕ
held_cell Buy = C.account_cash_held
held_cell Sell = C.account_position_held

-- a total is kept modulo 2^64: it is exact where it fits, which code 7 judges (`total_exact` in proofs/Totals.antt)
pub record Held (s : Store) : Type 0 where
  pub rows : (j : ℕ) → j < word s C.order_rows → 0 < s C.orders j C.order_live → Stored (ledger s).fee (s C.orders j)
  pub totals : (a : ℕ) → a < owner_slots → (z : Side) → s C.accounts a (held_cell z) ≡ wrap (held (ledger s).fee a z (ledger s).orders)
  pub counts : (a : ℕ) → a < owner_slots → s C.accounts a C.account_open_orders ≡ open_of a (ledger s).orders

-- ---- what is counted from the resting orders: each level's quantity and number of orders, and the number of levels; and which rows are levels
pub record Levels (z : Side) (s : Store) : Type 0 where
  pub rising : Ascends key (row z s) (used z s)
  pub are : best z (entries z s) ≡ Depth.levels z (depth s).resting
  pub counted : size z s ≡ length (entries z s)
  pub mapped : Mapped (map_block z) most_levels s (is_level (row z s) (used z s))

-- ---- accounts, sessions and the batch

-- sessions and accounts name each other, and what is read as 32 bits fits
pub record Clients (s : Store) : Type 0 where
  pub linked : Linked s
  pub limited : Limited s
  pub batch : BatchFits s

-- ---- the whole

-- the tables are in order, and in bounds
pub record Tables (s : Store) : Type 0 where
  pub ordered : Ordered s
  pub bids : Levels Buy s
  pub asks : Levels Sell s
  pub live_few : word s C.live_orders ≤ most_orders
  pub resting_few : word s C.resting_orders ≤ most_orders
  -- commands are numbered one by one: no order has a later number, and those in flight end at the last
  pub numbered : (j : ℕ) → j < word s C.order_rows → s C.orders j C.order_number ≤ word s C.last
  pub run : word s C.flying ≤ word s C.last
  pub chained : Chained s

pub record Sound (s : Store) : Type 0 where
  pub tables : Tables s
  pub held : Held s
  pub clients : Clients s

-- a state stands in xs: document 01's premise that it is the one the last call left
pub record State (xs : List ℕ) : Type 0 where
  pub holds : Holds xs
  pub sound : Sound (cell xs)

-- ys holds a state, and its gateway is g
pub record Becomes (ys : List ℕ) (g : Gateway) : Type 0 where
  pub state : State ys
  pub gateway_is : gateway (cell ys) ≡ g

-- and every row of orders stands where it stood in xs: what was found there is found at the same place
pub record InPlace (xs ys : List ℕ) (g : Gateway) : Type 0 where
  pub becomes : Becomes ys g
  pub stays : Stays (cell xs) (cell ys)
