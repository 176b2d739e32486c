-- A replayed event: its tests as the code makes them, what it does to live orders, and the gateway after it.
use Rattle.std.specs.Prelude.{ℕ, ◌≡◌, Bool, true, List, [], ◌∷◌, leb, ℤ, Option}
use Rattle.orderbook.specs.declared.Side.{Side}
use Rattle.orderbook.specs.declared.Event.{Event}
use Rattle.orderbook.specs.declared.Event.TheVariants.{Rested}
use Rattle.gateway.specs.Limits.{out_of_range, sequence, outside, inconsistent}
use Rattle.gateway.specs.Ledger.{number_of, changes, change}
use Rattle.gateway.specs.Core as Core
use Rattle.gateway.specs.Core.{owner_limit, in_flight, drop_below, first_places, names_below, numbers_agree}
use Rattle.gateway.specs.Rest.{no_session}
use Rattle.gateway.specs.Fits.{EventFits}
use Rattle.gateway.specs.Calls.{Gateway}
use Rattle.store.specs.Cells as C
use Rattle.store.specs.Layout.{cell}
use Rattle.store.specs.View.{order}
use Rattle.orders.specs.Orders.{Sees}
use Rattle.live.specs.Live.{with_ledger}
use Rattle.delivery.specs.Delivery.{landed}
use Rattle.holds.specs.declared.Move.{Move}
use Rattle.holds.specs.declared.Shift.{Shift}
use Rattle.holds.specs.Holds.{change_of, pair_fits}
use Rattle.trades.specs.declared.Deal.{Deal}
use Rattle.trades.specs.Trades as Trades

-- ---- the tests, by their answers, in 01's order

abbrev pub tests : (n : ℕ) (below numbers holds : Bool) → Gateway → Core.Tests ℕ
tests n below numbers holds g =
    (sequence, no_session g.rest.sessions)
    ∷ (sequence, in_flight n g.core)
    ∷ (out_of_range, below)
    ∷ (inconsistent, numbers)
    ∷ (outside, holds)
    ∷ []

abbrev pub trade_tests : ℕ → Deal → (taker maker : Shift) → Gateway → Core.Tests ℕ
trade_tests n d s t g = tests n true (Trades.numbers n d.taker d.maker) (pair_fits s t g.core.ledger) g

-- ---- what the definitions say of an event

-- it changes no order; `below` and `numbers` are its tests' answers
pub record Still (n : ℕ) (below numbers : Bool) (e : Event) (g : Gateway) : Type 0 where
  pub below_is : below ≡ names_below (owner_limit g.core) e
  pub numbers_is : in_flight n g.core ≡ true → numbers ≡ numbers_agree n (first_places (drop_below n g.core.flights)) e
  pub none_changes : changes n e ≡ []
  pub fits : EventFits e

-- x happens to the order i, and nothing else
pub record Moves (n i : ℕ) (x : Move) (e : Event) : Type 0 where
  pub names : (m : ℕ) → names_below m e ≡ true
  pub numbers : (b : Bool) → numbers_agree n b e ≡ leb i n
  pub one_change : changes n e ≡ change_of i x ∷ []
  pub fits : EventFits e

-- the order i rests with this quantity, on any side, at any price
pub data Rests (i q : ℕ) : Event → Type 0 where
  at : (z : Side) (p : ℤ) (v : ℕ) → Rests i q (Rested i z p q v)

-- ---- the gateway after it

abbrev pub moved : (n i : ℕ) → Move → Gateway → Gateway
moved n i x g = landed n (with_ledger (change (change_of i x)) g)

-- the taker is settled before the maker
abbrev pub settled : Deal → Gateway → Gateway
settled d g = with_ledger (change (change_of d.maker (Trades.maker_fill d))) (with_ledger (change (change_of d.taker (Trades.taker_fill d))) g)

abbrev pub dealt : ℕ → Deal → Bool → Gateway → Gateway
dealt n d both g = landed n (Trades.marked both d.price (settled d g))

-- ---- what is asked

-- a trade's orders are two, and where they are
pub record Stand (d : Deal) (taker maker : Option ℕ) (xs : List ℕ) : Type 0 where
  pub two : (d.taker ≡ d.maker → ⊥)
  pub taker_lives : Sees C.order_live order number_of (cell xs) d.taker taker
  pub maker_lives : Sees C.order_live order number_of (cell xs) d.maker maker
