-- Chains of byte states: each is what a call of an entry point left of the last one, as its contract says. And what two states agree in, cell by cell.
use Rattle.std.specs.Prelude.{ℕ, ◌<◌, ◌≡◌, Bool, true, cond, List, [], ◌∷◌, map, ℤ, get_or, Some, None, is_some}
use Rattle.orderbook.specs.declared.Side.{Side}
use Rattle.orderbook.specs.declared.Listed.{Listed}
use Rattle.accounts.specs.declared.Account.{Account}
use Rattle.accounts.specs.declared.Timing.{Timing}
use Rattle.words.specs.Words.{int}
use Rattle.gateway.specs.Limits.{owner_slots}
use Rattle.gateway.specs.Ledger.{Order, Item, held}
use Rattle.gateway.specs.Calls.{Call}
use Rattle.gateway.specs.Start.{Started, set_up, restore}
use Rattle.gateway.specs.Restart.{as_call, record_of, forget, SameBooks, ledger_of}
use Rattle.store.specs.Cells as C
use Rattle.store.specs.Layout.{cell}
use Rattle.store.specs.View.{Row, Store, word, order, wallet, marked, ledger, gateway}
use Rattle.sound.specs.Sound.{held_cell}
use Rattle.opening.specs.Starts.{Starts}
use Rattle.edge.specs.Entering.{whole, asked, begins, Enters}

-- ---- starts

-- the start s was tried on the bytes xs, answered k and left ys: by an entry point that was handed a state's length and rows that are ones (else it answers 11 and
-- nothing begins), or by `beginning`
pub data Tries (s : Started) (k : ℕ) (xs ys : List ℕ) : Type 0 where
  entered : (ok : Bool) → whole ok xs ≡ true → Starts (begins ok xs s) k xs ys → Tries s k xs ys
  begun : Starts s k xs ys → Tries s k xs ys

-- the bytes ys are what an accepted set-up or restore left, with this fee, this owner limit and these accounts
pub data Opened (fee : ℤ) (limit : ℕ) (l : List Account) (ys : List ℕ) : Type 0 where
  by_set_up : (last : ℕ) (listing : List Listed) (timing : Timing) (xs : List ℕ) → Tries (set_up fee limit last l listing timing) 0 xs ys → Opened fee limit l ys
  by_restore : (timing : Timing) (bs xs : List ℕ) → Tries (restore fee limit l timing bs) 0 xs ys → Opened fee limit l ys

-- ---- calls

-- a call as it is made: whether what is lent beside the state is well formed
pub record Asking : Type 0 where
  pub formed : Bool
  pub for : Call

-- made on the bytes xs: its code and the bytes that it left, as the entry point's contract says; what it was lent and how it told its answer does not matter
pub record Made (x : Asking) (xs : List ℕ) : Type 0 where
  pub code : ℕ
  pub left : List ℕ
  pub enters : Enters (asked x.formed xs x.for) (Unit {0}) (λ a ms. Unit {0}) code xs left

-- it left the bytes ys
abbrev pub Makes : Asking → (xs ys : List ℕ) → Type 0
Makes x xs ys = (m : Made x xs) × (m.left ≡ ys)

-- any calls, refused and malformed ones too, each made on the bytes that the last one left
abbrev pub Chain : List ℕ → List Asking → Type 0
Chain xs [] = Unit {0}
Chain xs (x ∷ cs) = (m : Made x xs) × Chain m.left cs

-- the bytes that the last one left
abbrev pub ends_at : (xs : List ℕ) (cs : List Asking) → Chain xs cs → List ℕ
ends_at xs [] h = xs
ends_at xs (x ∷ cs) (m, h) = ends_at m.left cs h

-- all were accepted
abbrev pub Accepted : (xs : List ℕ) (cs : List Asking) → Chain xs cs → Type 0
Accepted xs [] h = Unit {0}
Accepted xs (x ∷ cs) (m, h) = (m.code ≡ 0) × Accepted m.left cs h

-- the calls that are heard: the others got 11
abbrev pub heard : List Asking → List Call
heard [] = []
heard (x ∷ cs) = cond x.formed (x.for ∷ heard cs) (heard cs)

-- what was accepted of calls that begin with the bytes xs
abbrev pub recorded : List ℕ → List Asking → List Item
recorded xs cs = record_of (gateway (cell xs)) (heard cs)

-- an item of the record is replayed by rows that say it
abbrev pub replays : Item → Asking
replays i = record { formed = true; for = as_call i }

-- ---- what two states agree in

-- a live order, and what its row says that it holds
pub record Holding : Type 0 where
  pub of : Order
  pub hold : ℤ

abbrev pub holding : Row → Holding
holding r = record { of = order r; hold = int (r C.order_hold) }

abbrev pub forget_ref : ℕ → Holding → Holding
forget_ref n h = record { of = forget n h.of; hold = h.hold }

-- last number, reference price, fee, live orders with their holds (client references of those numbered above n read 0), and for every account its wallet, cash
-- held, seats held and open count
pub record SameCells (n : ℕ) (s t : Store) : Type 0 where
  pub last : word t C.last ≡ word s C.last
  pub mark : (ledger t).mark ≡ (ledger s).mark
  pub fee : (ledger t).fee ≡ (ledger s).fee
  pub orders : marked t C.order_live holding ≡ map (forget_ref n) (marked s C.order_live holding)
  pub wallets : (a : ℕ) → a < owner_slots → wallet (t C.accounts a) ≡ wallet (s C.accounts a)
  pub held : (a : ℕ) → a < owner_slots → (z : Side) → t C.accounts a (held_cell z) ≡ s C.accounts a (held_cell z)
  pub open_counts : (a : ℕ) → a < owner_slots → t C.accounts a C.account_open_orders ≡ s C.accounts a C.account_open_orders

-- cash held and seats held of every wallet are 01's sums over its live buys and its live sells, exactly
pub record Exact (s : Store) : Type 0 where
  pub sums : (a : ℕ) → a < owner_slots → is_some (get_or (ledger s).wallets a None) ≡ true → (z : Side) → int (s C.accounts a (held_cell z)) ≡ held (ledger s).fee a z (ledger s).orders

-- ---- the claim

-- of the fee and a checkpoint's bytes bs, taken at the number n, and the record `is` since; the first gateway's bytes are xs now. A second one was restored with the
-- code k and has the bytes zs, and replays the record by the calls of `again`. All were accepted; the two agree, in the cells and in what the definitions read
-- from them (so that `wallet` and `last_seq` answer alike); in both what is held is exact; and the second is the independent ledger's
pub record Restarted (fee : ℤ) (n : ℕ) (bs : List ℕ) (is : List Item) (xs : List ℕ) (k : ℕ) (zs : List ℕ) (again : Chain zs (map replays is)) : Type 0 where
  pub restored : k ≡ 0
  pub replayed : Accepted zs (map replays is) again
  pub same_cells : SameCells n (cell xs) (cell (ends_at zs (map replays is) again))
  pub same_books : SameBooks n (gateway (cell xs)).core (gateway (cell (ends_at zs (map replays is) again))).core
  pub exact : Exact (cell xs) × Exact (cell (ends_at zs (map replays is) again))
  pub counted : ledger_of fee bs is ≡ Some (ledger (cell (ends_at zs (map replays is) again)))
