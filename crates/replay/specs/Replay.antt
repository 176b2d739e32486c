-- A replayed command: what it says in words, its tests as the code makes them, and the gateway after it.
use Rattle.std.specs.Prelude.{ℕ, ◌<◌, ◌≡◌, Bool, true, cond, not, ◌||◌, [], ◌∷◌, length, eqb, ltb, Option, Some, None, ℤ}
use Rattle.orderbook.specs.declared.Side.{Side}
use Rattle.orderbook.specs.declared.Command.{Command}
use Rattle.gateway.specs.Limits.{owner_slots, most_orders, most_in_flight, out_of_range, sequence, full, outside, inconsistent}
use Rattle.gateway.specs.Ledger.{Ledger, order_of, owner_of, placed, holds_fit}
use Rattle.gateway.specs.Core as Core
use Rattle.gateway.specs.Core.{owner_limit, places, own_number, owner_below}
use Rattle.gateway.specs.Rest.{no_session}
use Rattle.gateway.specs.Entry.{next}
use Rattle.gateway.specs.Fits.{Unsigned, PriceFits, CommandFits}
use Rattle.gateway.specs.Calls.{Gateway}
use Rattle.store.specs.View.{flag}
use Rattle.orders.specs.Orders as Orders
use Rattle.live.specs.Live.{with_ledger, placing}
use Rattle.commands.specs.Commands.{CanFly, flying}
use Rattle.replay.specs.declared.Terms.{Terms}
use Rattle.replay.specs.declared.Tests as T

-- ---- what a command says

-- k places an order of these fields
pub record Places (id owner : ℕ) (z : Side) (p : Option ℤ) (q : ℕ) (k : Command) : Type 0 where
  pub own : (n : ℕ) → own_number n k ≡ eqb id n
  pub below : (m : ℕ) → owner_below m k ≡ ltb owner m
  pub acts_for : owner_of k ≡ owner
  pub order : order_of k ≡ Some (record { side = z; price = p; qty = q })
  pub fits : PriceFits p → Unsigned q → CommandFits k

-- k places nothing; a phase change has no owner
pub record Plain (owner : ℕ) (owned : Bool) (k : Command) : Type 0 where
  pub own : (n : ℕ) → own_number n k ≡ true
  pub below : (m : ℕ) → owner_below m k ≡ cond owned (ltb owner m) true
  pub acts_for : owner_of k ≡ owner
  pub no_order : order_of k ≡ None
  pub fits : CommandFits k

-- t has what k, of the number n, says; the client reference of a replayed order is 0
pub record Reads (n : ℕ) (k : Command) (t : Terms) : Type 0 where
  pub own_is : own_number n k ≡ t.own
  pub below_is : (m : ℕ) → owner_below m k ≡ cond t.owned (ltb t.order.account m) true
  pub owner_is : owner_of k ≡ t.order.account
  pub places_is : places k ≡ flag t.places
  pub order_is : placed 0 n (owner_of k) (order_of k) ≡ cond (flag t.places) (Orders.order_of n t.order ∷ []) []
  pub fits : CommandFits k

-- ---- the tests

-- by their answers, in 01's order
abbrev pub tests : T.Tests → Core.Tests ℕ
tests t =
    (sequence, t.alone)
    ∷ (sequence, t.next)
    ∷ (inconsistent, t.own)
    ∷ (out_of_range, t.below)
    ∷ (full, t.flights)
    ∷ (full, t.orders)
    ∷ (outside, t.holds)
    ∷ []

-- the order that it places, if it does
abbrev pub enter : ℕ → Terms → Ledger → Ledger
enter n t l = cond (flag t.places) (placing n t.order l) l

abbrev pub below : Terms → Gateway → Bool
below t g = cond t.owned (ltb t.order.account (owner_limit g.core)) true

abbrev pub has_room : Terms → Gateway → Bool
has_room t g = not (flag t.places) || ltb (length g.core.ledger.orders) most_orders

abbrev pub command_tests : ℕ → Terms → Gateway → T.Tests
command_tests n t g =
    record {
      alone = no_session g.rest.sessions;
      next = eqb n (next g.core);
      own = t.own;
      below = below t g;
      flights = ltb (length g.core.flights) most_in_flight;
      orders = has_room t g;
      holds = holds_fit (enter n t g.core.ledger);
    }

-- ---- what is applied

pub record CanTake (n : ℕ) (t : Terms) (g : Gateway) : Type 0 where
  pub flies : CanFly g
  pub next_is : n ≡ next g.core
  pub room : has_room t g ≡ true
  pub owner_is : flag t.places ≡ true → t.order.account < owner_slots

-- in flight for its owner, from nobody, and its order placed
abbrev pub taken : ℕ → Terms → Gateway → Gateway
taken n t g = with_ledger (enter n t) (flying 0 t.order.account t.places g)
