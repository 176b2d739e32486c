-- The core: the ledger, the commands in flight and the accounts, which live calls and replay move alike; and the checks that replay makes.
use Rattle.std.specs.Prelude.{ℕ, ◌+◌, Bool, true, false, cond, not, ◌&&◌, ◌||◌, ◌≡◌, List, [], ◌∷◌, ◌++◌, length, get_or, set, eqb, ltb, leb, Option, Some, None, is_some}
use Rattle.orderbook.specs.declared.Command.{Command}
use Rattle.orderbook.specs.declared.Command.TheVariants.{Limit, Market, Cancel, Modify, Stop, CancelAll, SetPhase}
use Rattle.orderbook.specs.declared.Event.{Event}
use Rattle.orderbook.specs.declared.Event.TheVariants.{Accepted, Rejected, Trade, Rested, Replenished, Cancelled, Modified, StopPlaced, Triggered, MassCancelled, PhaseChanged}
use Rattle.accounts.specs.declared.Account.{Account}
use Rattle.gateway.specs.Limits.{most_orders, most_in_flight, out_of_range, exists, sequence, full, outside, inconsistent, has_orders}
use Rattle.gateway.specs.Ledger.{Ledger, Item, account, command, event, order_of, owner_of, step, holds_fit, open_of}

-- tests, each with what its failure says: the first that fails decides
abbrev pub Tests : Type 0 → Type 0
Tests A = List (A × Bool)

abbrev pub Pass : {A : Type 0} → Tests A → Type 0
Pass [] = Unit {0}
Pass (t ∷ ts) = (t.1 ≡ true) × Pass ts

-- where a command came from: the client's reference for the order it places, and the session that sent it (none: SYSTEM)
pub record Origin : Type 0 where
  pub client_ref : ℕ
  pub session : Option ℕ

abbrev pub system : Origin
system = record { client_ref = 0; session = None }

-- a command in flight: its events may still come
pub record Flight : Type 0 where
  pub number : ℕ
  pub session : Option ℕ
  pub owner : ℕ
  pub places : Bool

-- accounts by number, as many slots as the owner limit
pub record Core : Type 0 where
  pub ledger : Ledger
  pub flights : List Flight
  pub accounts : List (Option Account)

abbrev pub owner_limit : Core → ℕ
owner_limit c = length c.accounts

abbrev pub account_at : ℕ → Core → Option Account
account_at a c = get_or c.accounts a None

-- ---- in flight: the Rust's rule (`command`)

-- every command has an event, so those below n have had theirs
abbrev pub drop_below : ℕ → List Flight → List Flight
drop_below n [] = []
drop_below n (f ∷ fs) = cond (ltb f.number n) (drop_below n fs) (f ∷ fs)

abbrev pub is_first : ℕ → List Flight → Bool
is_first n [] = false
is_first n (f ∷ fs) = eqb f.number n

abbrev pub first_places : List Flight → Bool
first_places [] = false
first_places (f ∷ fs) = f.places

abbrev pub in_flight : ℕ → Core → Bool
in_flight n c = is_first n (drop_below n c.flights)

-- ---- the checks

abbrev pub places : Command → Bool
places k = is_some (order_of k)

-- an order that a command places bears the command's number
unfoldable pub own_number : ℕ → Command → Bool
own_number n (Limit i o s p q t d) = eqb i n
own_number n (Market i o s q) = eqb i n
own_number n (Stop i o s t l q) = eqb i n
own_number n (Cancel i o) = true
own_number n (Modify i o p q) = true
own_number n (CancelAll o) = true
own_number n (SetPhase p) = true

-- a phase change has no owner
unfoldable pub owner_below : ℕ → Command → Bool
owner_below m (SetPhase p) = true
owner_below m (Limit i o s p q t d) = ltb o m
owner_below m (Market i o s q) = ltb o m
owner_below m (Stop i o s t l q) = ltb o m
owner_below m (Cancel i o) = ltb o m
owner_below m (Modify i o p q) = ltb o m
owner_below m (CancelAll o) = ltb o m

-- no order number above the command's; a refused new order (the command places) is named by its own number; taker and maker differ
unfoldable pub numbers_agree : ℕ → Bool → Event → Bool
numbers_agree n new (Accepted i) = leb i n
numbers_agree n new (Rejected i why) = leb i n && (not new || eqb i n)
numbers_agree n new (Trade t taker maker s p q tl ml) = leb taker n && (leb maker n && not (eqb taker maker))
numbers_agree n new (Rested i s p q v) = leb i n
numbers_agree n new (Replenished i s p v) = leb i n
numbers_agree n new (Cancelled i q why) = leb i n
numbers_agree n new (Modified i p q v) = leb i n
numbers_agree n new (StopPlaced i s t l q) = leb i n
numbers_agree n new (Triggered i) = leb i n
numbers_agree n new (MassCancelled o k) = true
numbers_agree n new (PhaseChanged p) = true

-- a mass cancel's owner
unfoldable pub names_below : ℕ → Event → Bool
names_below m (MassCancelled o k) = ltb o m
names_below m (Accepted i) = true
names_below m (Rejected i why) = true
names_below m (Trade t taker maker s p q tl ml) = true
names_below m (Rested i s p q v) = true
names_below m (Replenished i s p v) = true
names_below m (Cancelled i q why) = true
names_below m (Modified i p q v) = true
names_below m (StopPlaced i s t l q) = true
names_below m (Triggered i) = true
names_below m (PhaseChanged p) = true

-- code 7 judges the exact totals after the item
abbrev pub fits_after : Item → Core → Bool
fits_after i c = holds_fit (step 0 i c.ledger)

-- what delivering and replaying an event share
abbrev pub event_tests : ℕ → Event → Core → Tests ℕ
event_tests n e c =
    (sequence, in_flight n c)
    ∷ (out_of_range, names_below (owner_limit c) e)
    ∷ (inconsistent, numbers_agree n (first_places (drop_below n c.flights)) e)
    ∷ []

unfoldable pub tests : Item → Core → Tests ℕ
tests (account a) c =
    (out_of_range, ltb a.id (owner_limit c))
    ∷ (exists, not (is_some (account_at a.id c)))
    ∷ (has_orders, eqb (open_of a.id c.ledger.orders) 0)
    ∷ []
tests (command n k) c =
    (sequence, eqb n (c.ledger.last + 1))
    ∷ (inconsistent, own_number n k)
    ∷ (out_of_range, owner_below (owner_limit c) k)
    ∷ (full, ltb (length c.flights) most_in_flight)
    ∷ (full, not (places k) || ltb (length c.ledger.orders) most_orders)
    ∷ (outside, fits_after (command n k) c)
    ∷ []
tests (event n e) c = event_tests n e c ++ ((outside, fits_after (event n e) c) ∷ [])

-- ---- the step

abbrev pub flight : Origin → ℕ → Command → Flight
flight from n k = record { number = n; session = from.session; owner = owner_of k; places = places k }

abbrev pub flights_after : Origin → Item → List Flight → List Flight
flights_after from (account a) fs = fs
flights_after from (command n k) fs = fs ++ (flight from n k ∷ [])
flights_after from (event n e) fs = drop_below n fs

abbrev pub accounts_after : Item → List (Option Account) → List (Option Account)
accounts_after (account a) t = set t a.id (Some a)
accounts_after (command n k) t = t
accounts_after (event n e) t = t

-- the only way in which the core moves
abbrev pub core_step : Origin → Item → Core → Core
core_step from i c =
    record { ledger = step from.client_ref i c.ledger; flights = flights_after from i c.flights; accounts = accounts_after i c.accounts }
