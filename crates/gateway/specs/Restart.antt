-- Restart: the record of a list of calls, its replay, the ledger of a checkpoint's bytes and a record, and what demand 3 claims.
use Rattle.std.specs.Prelude.{ℕ, ◌<◌, cond, ◌≡◌, List, [], ◌∷◌, ◌++◌, map, ℤ, leb, Option, Some, None, option_map}
use Rattle.accounts.specs.declared.Account.{Account}
use Rattle.accounts.specs.declared.Timing.{Timing}
use Rattle.gateway.specs.Ledger.{Order, Ledger, Item, account, command, event, order_hold, open_of, replayed}
use Rattle.gateway.specs.Core.{Core}
use Rattle.gateway.specs.Entry.{balance}
use Rattle.gateway.specs.Saved.{opening}
use Rattle.gateway.specs.Bytes.{decode}
use Rattle.gateway.specs.Calls.{Gateway, Call, add_account, replay_command, replay_event, Outcome, refused, done, call}
use Rattle.gateway.specs.Start.{started, restore}

-- a refused call changes nothing and adds nothing to the record
abbrev pub next_of : Gateway → Outcome → Gateway
next_of g (refused k) = g
next_of g (done a is ms h) = h

abbrev pub items_of : Outcome → List Item
items_of (refused k) = []
items_of (done a is ms h) = is

abbrev pub final : Gateway → List Call → Gateway
final g [] = g
final g (x ∷ xs) = final (next_of g (call g x)) xs

abbrev pub record_of : Gateway → List Call → List Item
record_of g [] = []
record_of g (x ∷ xs) = items_of (call g x) ++ record_of (next_of g (call g x)) xs

-- the accounts that a record adds
abbrev pub added : List Item → List Account
added [] = []
added (account a ∷ is) = a ∷ added is
added (command n k ∷ is) = added is
added (event n e ∷ is) = added is

-- an item is replayed by a call of the gateway, which must be accepted
abbrev pub as_call : Item → Call
as_call (account a) = add_account a
as_call (command n k) = replay_command n k
as_call (event n e) = replay_event n e

abbrev pub on_done : Outcome → (Gateway → Option Gateway) → Option Gateway
on_done (refused k) f = None
on_done (done a is ms h) f = f h

abbrev pub replay : List Item → Gateway → Option Gateway
replay [] g = Some g
replay (i ∷ is) g = on_done (call g (as_call i)) (replay is)

-- no event of a command numbered at or before n
abbrev pub later : ℕ → Item → Type 0
later n (account a) = Unit {0}
later n (command m k) = Unit {0}
later n (event m e) = n < m

abbrev pub all_later : ℕ → List Item → Type 0
all_later n [] = Unit {0}
all_later n (i ∷ is) = later n i × all_later n is

-- the client references of orders placed after number n are lost
abbrev pub forget : ℕ → Order → Order
forget n o =
    record { number = o.number; account = o.account; client_ref = cond (leb o.number n) o.client_ref 0; side = o.side; price = o.price; leaves = o.leaves }

abbrev pub forgetting : ℕ → Ledger → Ledger
forgetting n l = record { last = l.last; wallets = l.wallets; orders = map (forget n) l.orders; mark = l.mark; fee = l.fee }

-- the independent ledger: the fee and a checkpoint's bytes, then the record
unfoldable pub ledger_of : ℤ → List ℕ → List Item → Option Ledger
ledger_of fee bs is = option_map (λ s. replayed is (opening fee s)) (decode bs)

-- two gateways agree on the books: last number, reference price, fee, live orders with their holds (but for lost client references), and for every account
-- its wallet with cash held and seats held (01's sums over live buys and live sells) and its open count
pub record SameBooks (n : ℕ) (c d : Core) : Type 0 where
  pub last : d.ledger.last ≡ c.ledger.last
  pub mark : d.ledger.mark ≡ c.ledger.mark
  pub fee : d.ledger.fee ≡ c.ledger.fee
  pub orders : d.ledger.orders ≡ map (forget n) c.ledger.orders
  pub holds : map (order_hold d.ledger.fee) d.ledger.orders ≡ map (order_hold c.ledger.fee) c.ledger.orders
  pub wallet : (a : ℕ) → balance a d ≡ balance a c
  pub open_count : (a : ℕ) → open_of a d.ledger.orders ≡ open_of a c.ledger.orders

-- what demand 3 claims of the fee and a checkpoint's bytes, taken at the number n with the accounts l, the record since, and the gateway g of now: the bytes are
-- restored, the record is replayed item by item, the two gateways agree on the books, and the second's are the independent ledger's
pub record Restarts (fee : ℤ) (limit : ℕ) (l : List Account) (timing : Timing) (n : ℕ) (bs : List ℕ) (is : List Item) (g : Gateway) : Type 0 where
  pub begun : Gateway
  pub accepts : restore fee limit l timing bs ≡ started begun
  pub ended : Gateway
  pub replays : replay is begun ≡ Some ended
  pub agrees : SameBooks n g.core ended.core
  pub counted : ledger_of fee bs is ≡ Some ended.core.ledger
