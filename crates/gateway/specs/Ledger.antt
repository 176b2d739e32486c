-- The ledger: what a checkpoint holds, and what the record makes of it. It sees no gateway.
use Rattle.std.specs.Prelude.{ℕ, suc, Bool, true, false, cond, ◌&&◌, List, [], ◌∷◌, ◌++◌, ℤ, pos, ◌+ℤ◌, get_or, set, eqb, Option, Some, None, option_map, is_some}
use Rattle.orderbook.specs.declared.Side.{Side}
use Rattle.orderbook.specs.declared.Side.TheVariants.{Buy, Sell}
use Rattle.orderbook.specs.declared.Command.{Command}
use Rattle.orderbook.specs.declared.Command.TheVariants.{Limit, Market, Cancel, Modify, Stop, CancelAll, SetPhase}
use Rattle.orderbook.specs.declared.Event.{Event}
use Rattle.orderbook.specs.declared.Event.TheVariants.{Accepted, Rejected, Trade, Rested, Replenished, Cancelled, Modified, StopPlaced, Triggered, MassCancelled, PhaseChanged}
use Rattle.accounts.specs.declared.Account.{Account}
use Rattle.accounts.specs.declared.Funds.{Funds}
use Rattle.words.specs.Words.{fit}
use Rattle.wallet.specs.Wallet as W
use Rattle.gateway.specs.Basics.{option}
use Rattle.table.specs.Live.{look, without}
use Rattle.gateway.specs.Table.{update}

-- a live order, with the fields of the checkpoint
pub record Order : Type 0 where
  pub number : ℕ
  pub account : ℕ
  pub client_ref : ℕ
  pub side : Side
  pub price : Option ℤ
  pub leaves : ℕ

-- wallets by account; orders ascending by number; the mark is the reference price (the Rust's market_price); the fee for a seat (02, order 7) never
-- changes
pub record Ledger : Type 0 where
  pub last : ℕ
  pub wallets : List (Option Funds)
  pub orders : List Order
  pub mark : Option ℤ
  pub fee : ℤ

-- an item of the record
pub data Item : Type 0 where
  account : Account → Item
  command : ℕ → Command → Item
  event : ℕ → Event → Item

-- ---- commands

-- the order that a command places
pub record New : Type 0 where
  pub side : Side
  pub price : Option ℤ
  pub qty : ℕ

unfoldable pub order_of : Command → Option New
order_of (Limit i o s p q t d) = Some (record { side = s; price = Some p; qty = q })
order_of (Market i o s q) = Some (record { side = s; price = None; qty = q })
order_of (Stop i o s t l q) = Some (record { side = s; price = l; qty = q })
order_of (Cancel i o) = None
order_of (Modify i o p q) = None
order_of (CancelAll o) = None
order_of (SetPhase p) = None

-- whom a command acts for; a phase change, which has no owner, counts as 0's, as in replay_command
unfoldable pub owner_of : Command → ℕ
owner_of (Limit i o s p q t d) = o
owner_of (Market i o s q) = o
owner_of (Stop i o s t l q) = o
owner_of (Cancel i o) = o
owner_of (Modify i o p q) = o
owner_of (CancelAll o) = o
owner_of (SetPhase p) = 0

abbrev pub placed : ℕ → ℕ → ℕ → Option New → List Order
placed ref n a x =
    option [] (λ o. record { number = n; account = a; client_ref = ref; side = o.side; price = o.price; leaves = o.qty } ∷ []) x

-- ---- the table of orders

abbrev pub number_of : Order → ℕ
number_of o = o.number

abbrev pub find : ℕ → List Order → Option Order
find n os = look number_of n os

abbrev pub remove : ℕ → List Order → List Order
remove n os = without number_of n os

abbrev pub with_leaves : ℕ → Order → Order
with_leaves v o = record { number = o.number; account = o.account; client_ref = o.client_ref; side = o.side; price = o.price; leaves = v }

abbrev pub with_price : ℤ → Order → Order
with_price p o = record { number = o.number; account = o.account; client_ref = o.client_ref; side = o.side; price = Some p; leaves = o.leaves }

abbrev pub with_orders : List Order → Ledger → Ledger
with_orders os l = record { last = l.last; wallets = l.wallets; orders = os; mark = l.mark; fee = l.fee }

-- ---- what an event does, in a few primitive changes

pub data Change : Type 0 where
  mark_by : (taker maker : ℕ) (price : ℤ) → Change
  fill : (number : ℕ) (price : ℤ) (qty leaves : ℕ) → Change
  set_leaves : (number leaves : ℕ) → Change
  reprice : (number : ℕ) (price : ℤ) (leaves : ℕ) → Change
  retire : (number : ℕ) → Change

-- the changes of an event of command n: the taker is settled before the maker. A refused new order ends; a refusal of another command changes
-- nothing, and no live order bears that command's number
unfoldable pub changes : ℕ → Event → List Change
changes n (Accepted i) = []
changes n (Rejected i why) = cond (eqb i n) (retire i ∷ []) []
changes n (Trade t taker maker s p q tl ml) = mark_by taker maker p ∷ fill taker p q tl ∷ fill maker p q ml ∷ []
changes n (Rested i s p q v) = set_leaves i q ∷ []
changes n (Replenished i s p v) = []
changes n (Cancelled i q why) = retire i ∷ []
changes n (Modified i p q v) = reprice i p v ∷ []
changes n (StopPlaced i s t l q) = []
changes n (Triggered i) = []
changes n (MassCancelled o k) = []
changes n (PhaseChanged p) = []

-- an order with nothing left is done
abbrev pub left : ℕ → (Order → Order) → ℕ → List Order → List Order
left n f v os = cond (eqb v 0) (remove n os) (update number_of n (λ o. with_leaves v (f o)) os)

-- the wallet of an order's account
abbrev pub wallet_of : List (Option Funds) → Order → Option Funds
wallet_of ws o = get_or ws o.account None

-- a fill settles with the order's own side (`traded`), a buy's price with the fee
abbrev pub paid_to : ℤ → ℤ → ℕ → List (Option Funds) → Order → List (Option Funds)
paid_to fee p q ws o = set ws o.account (option_map (W.settle o.side (W.charged fee o.side p) q) (wallet_of ws o))

unfoldable pub pay : ℤ → ℤ → ℕ → Option Order → List (Option Funds) → List (Option Funds)
pay fee p q o ws = option ws (paid_to fee p q ws) o

-- the order is live and its account has a wallet
unfoldable pub paper : ℕ → Ledger → Bool
paper n l = option false (λ o. is_some (wallet_of l.wallets o)) (find n l.orders)

unfoldable pub change : Change → Ledger → Ledger
-- paper accounts that trade with each other do not move the mark
change (mark_by t m p) l =
    record { last = l.last; wallets = l.wallets; orders = l.orders; mark = cond (paper t l && paper m l) l.mark (Some p); fee = l.fee }
change (fill n p q v) l =
    record { last = l.last; wallets = pay l.fee p q (find n l.orders) l.wallets; orders = left n (λ o. o) v l.orders; mark = l.mark; fee = l.fee }
change (set_leaves n v) l = with_orders (update number_of n (with_leaves v) l.orders) l
change (reprice n p v) l = with_orders (left n (with_price p) v l.orders) l
change (retire n) l = with_orders (remove n l.orders) l

abbrev pub changed : List Change → Ledger → Ledger
changed [] l = l
changed (x ∷ xs) l = changed xs (change x l)

-- ---- the ledger's step

-- `ref` is the client reference of the order that a command places: the gateway has the client's, the ledger and a replay 0
unfoldable pub step : ℕ → Item → Ledger → Ledger
step ref (account a) l = record { last = l.last; wallets = set l.wallets a.id a.funds; orders = l.orders; mark = l.mark; fee = l.fee }
step ref (command n k) l = record { last = n; wallets = l.wallets; orders = l.orders ++ placed ref n (owner_of k) (order_of k); mark = l.mark; fee = l.fee }
step ref (event n e) l = changed (changes n e) l

abbrev pub replayed : List Item → Ledger → Ledger
replayed [] l = l
replayed (i ∷ is) l = replayed is (step 0 i l)

-- ---- holds and open counts, counted from the live orders

abbrev pub same_side : Side → Side → Bool
same_side Buy Buy = true
same_side Buy Sell = false
same_side Sell Buy = false
same_side Sell Sell = true

-- what an order with these fields holds: 0 without a price, or where the amount does not fit (wallet/specs)
unfoldable pub hold : ℤ → Side → Option ℤ → ℕ → ℤ
hold fee s p v = W.held s (option_map (W.charged fee s) p) v

-- what an order holds of its account's wallet, where it has one
abbrev pub order_hold : ℤ → Order → ℤ
order_hold fee o = hold fee o.side o.price o.leaves

abbrev pub held_by : ℤ → ℕ → Side → Order → ℤ
held_by fee a s o = cond (eqb o.account a && same_side s o.side) (order_hold fee o) (pos 0)

-- cash held is account a's sum over live buys, seats held over live sells
abbrev pub held : ℤ → ℕ → Side → List Order → ℤ
held fee a s [] = pos 0
held fee a s (o ∷ os) = held_by fee a s o +ℤ held fee a s os

-- 64 bits signed
unfoldable pub fits : ℤ → Bool
fits z = is_some (fit z)

abbrev pub wallet_fits : ℤ → ℕ → Option Funds → List Order → Bool
wallet_fits fee a None os = true
wallet_fits fee a (Some w) os = fits (held fee a Buy os) && fits (held fee a Sell os)

abbrev pub wallets_fit : ℤ → ℕ → List (Option Funds) → List Order → Bool
wallets_fit fee a [] os = true
wallets_fit fee a (w ∷ ws) os = wallet_fits fee a w os && wallets_fit fee (suc a) ws os

-- code 7: the hold totals of every wallet are in range
unfoldable pub holds_fit : Ledger → Bool
holds_fit l = wallets_fit l.fee 0 l.wallets l.orders

-- an owner's number of live orders
abbrev pub open_of : ℕ → List Order → ℕ
open_of a [] = 0
open_of a (o ∷ os) = cond (eqb o.account a) (suc (open_of a os)) (open_of a os)
