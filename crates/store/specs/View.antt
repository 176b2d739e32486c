-- The gateway of the definitions that the cells hold. It forgets the caches: holds, held totals, open counts, levels, links, tops and hints.
use Rattle.std.specs.Prelude.{ℕ, zero, suc, ◌+◌, ◌-◌, ◌%◌, ◌≤◌, ◌≡◌, Bool, cond, not, ◌&&◌, List, [], ◌∷◌, ◌++◌, map, eqb, Option, Some, None, ℤ}
use Rattle.orderbook.specs.declared.Side.{Side}
use Rattle.orderbook.specs.declared.Side.TheVariants.{Buy, Sell}
use Rattle.orderbook.specs.declared.TimeInForce.{TimeInForce}
use Rattle.orderbook.specs.declared.TimeInForce.TheVariants.{Gtc, Ioc, Fok, PostOnly}
use Rattle.orderbook.specs.declared.Command.{Command}
use Rattle.orderbook.specs.declared.Command.TheVariants.{Limit, Market, Cancel, Modify, Stop, CancelAll}
use Rattle.protocol.specs.declared.TradeTick.{TradeTick}
use Rattle.accounts.specs.declared.Account.{Account}
use Rattle.accounts.specs.declared.Funds.{Funds}
use Rattle.risk.specs.declared.Bucket.{Bucket}
use Rattle.words.specs.Words.{int, half, ◌⊖◌}
use Rattle.table.specs.Live.{live}
use Rattle.gateway.specs.Limits.{owner_slots, session_slots, most_in_flight, most_in_batch, most_levels, most_trades, most_notices, most_changed}
use Rattle.gateway.specs.Ledger.{Order, Ledger}
use Rattle.gateway.specs.Core.{Flight}
use Rattle.gateway.specs.Depth.{Resting, Depth, Level, Key}
use Rattle.gateway.specs.Rest.{Session}
use Rattle.gateway.specs.Calls.{Gateway}
use Rattle.store.specs.Layout.{Cell, Holds, cell}
use Rattle.store.specs.Cells as C

-- a row's numbers by cell, and all cells by block, row and cell
abbrev pub Row : Type 0
Row = ℕ → ℕ

abbrev pub Store : Type 0
Store = ℕ → ℕ → Row

-- s with v in one cell
abbrev pub write : ℕ → ℕ → ℕ → ℕ → Store → Store
write b i k v s d j l = cond (eqb d b && (eqb j i && eqb l k)) v (s d j l)

-- vs in the cells of a row from k on
unfoldable pub fill : ℕ → ℕ → ℕ → List ℕ → Store → Store
fill b i k [] s = s
fill b i k (v ∷ vs) s = fill b i (k + 1) vs (write b i k v s)

-- the same numbers in every cell of the layout
abbrev pub Same : Store → Store → Type 0
Same s t = (b i k : ℕ) → Cell b i k → s b i k ≡ t b i k

-- f 0, .., f (n - 1)
unfoldable pub listed : {A : Type 0} → (ℕ → A) → ℕ → List A
listed f zero = []
listed f (suc n) = listed f n ++ (f n ∷ [])

-- ---- fields

abbrev pub flag : ℕ → Bool
flag n = not (eqb n 0)

abbrev pub maybe : {A : Type 0} → ℕ → A → Option A
maybe n a = cond (flag n) (Some a) None

-- one more than the number, or 0
abbrev pub optional : ℕ → Option ℕ
optional n = maybe n (n - 1)

abbrev pub maybe_price : ℕ → ℕ → Option ℤ
maybe_price n w = cond (flag n) (Some (int w)) None

abbrev pub maybe_qty : ℕ → ℕ → Option ℕ
maybe_qty n q = cond (flag n) (Some q) None

abbrev pub side : ℕ → Side
side n = cond (flag n) Sell Buy

abbrev pub tif : ℕ → TimeInForce
tif n = cond (eqb n 0) Gtc (cond (eqb n 1) Ioc (cond (eqb n 2) Fok PostOnly))

-- ---- rows

abbrev pub account : ℕ → Row → Option Account
account i r =
    maybe (r C.account_exists)
    (record {
      id = i;
      token = r C.account_token;
      max_open_orders = r C.account_max_open;
      messages_per_second = r C.account_rate;
      funds =
          cond (flag (r C.account_funded))
          (Some (record { cash = int (r C.account_funds_cash); position = int (r C.account_funds_position) }))
          None;
    })

abbrev pub wallet : Row → Option Funds
wallet r =
    maybe (r C.account_funded) (record { cash = int (r C.account_cash); position = int (r C.account_position) })

abbrev pub bucket : Row → Bucket
bucket r = record { tokens = r C.account_tokens; refilled = r C.account_refilled }

abbrev pub session : Row → Option Session
session r =
    maybe (r C.session_connected)
    (record {
      account = optional (r C.session_account);
      last_received = r C.session_last_received;
      last_sent = r C.session_last_sent;
      closing = flag (r C.session_closing);
      subscribed = flag (r C.session_subscribed);
    })

-- the command numbered n
abbrev pub flight : ℕ → Row → Flight
flight n r =
    record {
      number = n;
      session = optional (r C.flight_sender);
      owner = r C.flight_owner;
      places = flag (r C.flight_places);
    }

-- kinds as in the Rust, from 0; a phase change is never in the batch
abbrev pub command : Row → Command
command r =
    let id = r C.command_id in
    let owner = r C.command_owner in
    let price = int (r C.command_price) in
    let qty = r C.command_qty in
    let display = maybe_qty (r C.command_displayed) (r C.command_display) in
    cond (eqb (r C.command_kind) 0) (Limit id owner (side (r C.command_side)) price qty (tif (r C.command_tif)) display)
    (cond (eqb (r C.command_kind) 1) (Market id owner (side (r C.command_side)) qty)
    (cond (eqb (r C.command_kind) 2) (Cancel id owner)
    (cond (eqb (r C.command_kind) 3) (Modify id owner price qty)
    (cond (eqb (r C.command_kind) 4)
    (Stop id owner (side (r C.command_side)) (int (r C.command_trigger)) (maybe_price (r C.command_limited) (r C.command_limit)) qty)
    (CancelAll owner)))))

-- the two halves of an order's row
abbrev pub order : Row → Order
order r =
    record {
      number = r C.order_number;
      account = r C.order_account;
      client_ref = r C.order_client_ref;
      side = side (r C.order_side);
      price = maybe_price (r C.order_priced) (r C.order_price);
      leaves = r C.order_leaves;
    }

abbrev pub resting : Row → Resting
resting r =
    record {
      number = r C.order_number;
      side = side (r C.order_rest_side);
      price = int (r C.order_rest_price);
      visible = r C.order_visible;
      leaves = r C.order_rest_leaves;
    }

-- a level's price is raised by 2^63
abbrev pub level : Row → Level
level r = record { price = r C.level_price ⊖ half; qty = r C.level_qty; orders = r C.level_orders }

abbrev pub trade : Row → TradeTick
trade r =
    record {
      seq = r C.trade_seq;
      trade_id = r C.trade_trade_id;
      side = side (r C.trade_side);
      price = int (r C.trade_price);
      qty = r C.trade_qty;
    }

abbrev pub changed_key : Row → Key
changed_key r = (side (r C.changed_side), int (r C.changed_price))

-- ---- the gateway
module _ (s : Store) where
  abbrev pub word : ℕ → ℕ
  word k = s C.header 0 k

  -- the rows of orders whose cell k is not 0, ascending by number, as f reads them
  abbrev pub marked : {A : Type 0} → ℕ → (Row → A) → List A
  marked {A} k f = map (λ (p : ℕ × A). p.1) (live (λ (p : ℕ × A). p.0) (λ i. (s C.orders i k, f (s C.orders i))) (word C.order_rows))

  abbrev pub ledger : Ledger
  ledger =
      record {
        last = word C.last;
        wallets = listed (λ i. wallet (s C.accounts i)) owner_slots;
        orders = marked C.order_live order;
        mark = maybe_price (word C.marked) (word C.mark);
        fee = int (word C.fee);
      }

  -- the run of commands in flight ends at the last number; each has the slot of its number modulo 256
  abbrev pub in_slot : ℕ → Flight
  in_slot n = flight n (s C.flights (n % most_in_flight))

  abbrev pub flights : List Flight
  flights = listed (λ j. in_slot (word C.last + 1 + j - word C.flying)) (word C.flying)

  abbrev pub depth : Depth
  depth =
      record { resting = marked C.order_resting resting; changed = listed (λ i. changed_key (s C.changed i)) (word C.changed_rows) }

  abbrev pub gateway : Gateway
  gateway =
      record {
        core = record { ledger = ledger; flights = flights; accounts = listed (λ i. account i (s C.accounts i)) (word C.owner_limit) };
        rest =
            record {
              timing = record { heartbeat = word C.heartbeat; idle_timeout = word C.idle_timeout };
              clock = word C.clock;
              sessions = listed (λ i. session (s C.sessions i)) session_slots;
              buckets = listed (λ i. bucket (s C.accounts i)) owner_slots;
              batch = listed (λ i. command (s C.batch i)) (word C.waiting);
              delivered = word C.delivered;
              published = word C.published;
              depth = depth;
              trades = listed (λ i. trade (s C.trades i)) (word C.trade_rows);
              notices = listed (λ i. s C.notices i C.notice_account) (word C.notice_rows);
              collar = optional (word C.collar);
            };
      }

-- room for twice the orders that may be in the table
abbrev pub order_room : ℕ
order_room = 2048

-- the rows in use stand in their blocks
pub record Bounds (s : Store) : Type 0 where
  pub accounts_fit : word s C.owner_limit ≤ owner_slots
  pub flights_fit : word s C.flying ≤ most_in_flight
  pub batch_fits : word s C.waiting ≤ most_in_batch
  pub orders_fit : word s C.order_rows ≤ order_room
  pub bids_fit : word s C.bid_rows ≤ most_levels
  pub asks_fit : word s C.ask_rows ≤ most_levels
  pub trades_fit : word s C.trade_rows ≤ most_trades
  pub notices_fit : word s C.notice_rows ≤ most_notices
  pub changed_fit : word s C.changed_rows ≤ most_changed

-- ys holds the store s
pub record Is (ys : List ℕ) (s : Store) : Type 0 where
  pub holds : Holds ys
  pub same : Same (cell ys) s

-- a state that is in bounds stands in xs
pub record Ready (xs : List ℕ) : Type 0 where
  pub holds : Holds xs
  pub bounds : Bounds (cell xs)

-- nothing in any cell
abbrev pub zeros : Store
zeros b i k = 0
