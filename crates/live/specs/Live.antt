-- Live orders and what they hold: what each operation writes, as a store. A row's words are as in docs/STATE.md.
use Rattle.std.specs.Prelude.{ℕ, ◌+◌, ◌-◌, ◌≤◌, ◌<◌, ◌≡◌, Bool, cond, List, [], ◌∷◌, ◌++◌, eqb, ℤ, ◌+ℤ◌, ◌-ℤ◌, is_some}
use Rattle.accounts.specs.declared.Funds.{Funds}
use Rattle.orderbook.specs.declared.Side.{Side}
use Rattle.words.specs.Words.{int, wrap}
use Rattle.wallet.specs.Wallet as W
use Rattle.gateway.specs.Limits.{owner_slots, most_orders}
use Rattle.gateway.specs.Ledger.{Ledger, hold, with_orders}
use Rattle.gateway.specs.Deliver as Deliver
use Rattle.gateway.specs.Calls.{Gateway}
use Rattle.gateway.specs.Entry.{noticing}
use Rattle.store.specs.Cells as C
use Rattle.store.specs.Layout.{cell}
use Rattle.store.specs.View.{Row, Store, word, write, flag, side, maybe_price, wallet, gateway}
use Rattle.orders.specs.declared.Live.{Live}
use Rattle.orders.specs.Orders.{order_of}
use Rattle.orders.specs.Orders as Orders
use Rattle.clients.specs.Clients as Clients
use Rattle.sound.specs.Sound.{held_cell, Becomes}

-- the row i is that of a live order
pub record At (i : ℕ) (s : Store) : Type 0 where
  pub inside : i < word s C.order_rows
  pub live : 0 < s C.orders i C.order_live

abbrev pub with_ledger : (Ledger → Ledger) → Gateway → Gateway
with_ledger f g = record { core = record { ledger = f g.core.ledger; flights = g.core.flights; accounts = g.core.accounts }; rest = g.rest }

abbrev pub with_notices : List ℕ → Gateway → Gateway
with_notices ns g = record { core = g.core; rest = noticing ns g.rest }

-- what an order with these words holds, at this fee
unfoldable pub hold_word : ℕ → ℕ → ℕ → ℕ → ℕ → ℕ
hold_word fee z priced price leaves = wrap (hold (int fee) (side z) (maybe_price priced price) leaves)

-- what the order of a row holds with this much open, and also at another price
abbrev pub hold_left : ℕ → ℕ → Row → ℕ
hold_left fee leaves r = hold_word fee (r C.order_side) (r C.order_priced) (r C.order_price) leaves

abbrev pub hold_repriced : ℕ → ℕ → ℕ → Row → ℕ
hold_repriced fee price leaves r = hold_word fee (r C.order_side) 1 price leaves

-- a part of what account a's orders of a side hold changes
unfoldable pub shift : ℕ → Side → ℕ → ℕ → Store → Store
shift a z old new s =
    write C.accounts a (held_cell z) (wrap (int (s C.accounts a (held_cell z)) -ℤ int old +ℤ int new)) s

-- the order o in the row i has another price or another quantity open
unfoldable pub revise : ℕ → Live → ℕ → ℕ → ℕ → Store → Store
revise i o priced price leaves s =
    let h = hold_word (word s C.fee) o.side priced price leaves in
    shift o.account (side o.side) o.hold h (Orders.revise i priced price leaves h s)

-- it ends
unfoldable pub retire : ℕ → Live → Store → Store
retire i o s =
    shift o.account (side o.side) o.hold 0
    (write C.accounts o.account C.account_open_orders (s C.accounts o.account C.account_open_orders - 1) (Orders.retire i s))

-- an order with nothing left is done
unfoldable pub left : ℕ → Live → ℕ → ℕ → ℕ → Store → Store
left i o priced price leaves s = cond (eqb leaves 0) (retire i o s) (revise i o priced price leaves s)

-- an order comes, behind the others
abbrev pub holding : ℕ → Live → Live
holding fee o =
    record {
      account = o.account;
      client_ref = o.client_ref;
      side = o.side;
      priced = o.priced;
      price = o.price;
      leaves = o.leaves;
      hold = hold_word fee o.side o.priced o.price o.leaves;
    }

unfoldable pub place : ℕ → Live → Store → Store
place n o s =
    shift o.account (side o.side) 0 (holding (word s C.fee) o).hold
    (write C.accounts o.account C.account_open_orders (s C.accounts o.account C.account_open_orders + 1) (Orders.append n (holding (word s C.fee) o) (Orders.make_room s)))

-- a trade moves the wallet of account a, where it has one
abbrev pub funds : ℕ → Store → Funds
funds a s = record { cash = int (s C.accounts a C.account_cash); position = int (s C.accounts a C.account_position) }

unfoldable pub settle : ℕ → Side → ℕ → ℕ → Store → Store
settle a z price qty s =
    let f = W.settle z (W.charged (int (word s C.fee)) z (int price)) qty (funds a s) in
    Clients.set_money a (wrap f.cash) (wrap f.position) s

unfoldable pub pay : ℕ → Side → ℕ → ℕ → Store → Store
pay a z price qty s = cond (flag (s C.accounts a C.account_funded)) (settle a z price qty s) s

-- what a new order asks: room, a number above the others, and an account's row
pub record CanPlace (n : ℕ) (o : Live) (s : Store) : Type 0 where
  pub room : word s C.live_orders < most_orders
  pub above : (j : ℕ) → j < word s C.order_rows → s C.orders j C.order_number < n
  pub at_most_last : n ≤ word s C.last
  pub owner_is : o.account < owner_slots

abbrev pub placing : ℕ → Live → Ledger → Ledger
placing n o l = with_orders (l.orders ++ (order_of n o ∷ [])) l

-- it was placed, and no row has a later number
pub record Seeds (n : ℕ) (o : Live) (xs ys : List ℕ) : Type 0 where
  pub becomes : Becomes ys (with_ledger (placing n o) (gateway (cell xs)))
  pub last : (j : ℕ) → j < word (cell ys) C.order_rows → cell ys C.orders j C.order_number ≤ n

-- a notice of account a, or none
abbrev pub notice_where : ℕ → Bool → List ℕ
notice_where a b = cond b (a ∷ []) []

-- the notices of account a's wallet: that it changed, and that a hold went from one amount to another
abbrev pub wallet_notice : ℕ → Store → List ℕ
wallet_notice a s = notice_where a (is_some (wallet (s C.accounts a)))

abbrev pub hold_notice : ℕ → ℤ → ℤ → Store → List ℕ
hold_notice a old new s = cond (is_some (wallet (s C.accounts a))) (Deliver.hold_notice a old new) []
