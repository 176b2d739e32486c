-- A trade: what it says, its tests in the code's words, what is asked before it is applied, and the gateway after it.
use Rattle.std.specs.Prelude.{ℕ, ◌+◌, ◌≤◌, ◌<◌, ◌≡◌, Bool, true, cond, not, ◌&&◌, List, [], ◌∷◌, ◌++◌, eqb, ltb, leb, length, Some}
use Rattle.orderbook.specs.Types.{opposite_of}
use Rattle.orderbook.specs.declared.Side.{Side}
use Rattle.orderbook.specs.declared.Event.{Event}
use Rattle.orderbook.specs.declared.Event.TheVariants.{Trade}
use Rattle.protocol.specs.declared.ReportKind.{ReportKind}
use Rattle.protocol.specs.declared.ReportKind.TheVariants as Kind
use Rattle.protocol.specs.declared.TradeTick.{TradeTick}
use Rattle.words.specs.Words.{int}
use Rattle.gateway.specs.Limits.{most_trades, most_notices}
use Rattle.gateway.specs.Ledger.{Ledger, number_of, change}
use Rattle.gateway.specs.Core.{in_flight}
use Rattle.gateway.specs.Depth.{Depth, resting_number, shows}
use Rattle.gateway.specs.Rest.{Mail, pending}
use Rattle.gateway.specs.Deliver.{change_notices}
use Rattle.gateway.specs.Fits.{EventFits}
use Rattle.gateway.specs.Calls.{Gateway}
use Rattle.store.specs.Cells as C
use Rattle.store.specs.Layout.{cell}
use Rattle.store.specs.View.{side, order, resting, gateway}
use Rattle.orders.specs.declared.Places.{Places}
use Rattle.orders.specs.Orders.{Sees}
use Rattle.live.specs.Live.{with_ledger}
use Rattle.marketdata.specs.Marketdata.{with_depth, traded, CanTrade}
use Rattle.outcome.specs.Parts.{with_rest, Sends}
use Rattle.reporting.specs.declared.Told.{Told}
use Rattle.reporting.specs.Reporting.{told_mail, told_rows, Tells}
use Rattle.delivery.specs.declared.Tests as T
use Rattle.delivery.specs.Delivery.{landed}
use Rattle.holds.specs.declared.Move.{Move}
use Rattle.holds.specs.declared.Move.TheVariants.{Fill}
use Rattle.holds.specs.declared.Shift.{Shift}
use Rattle.holds.specs.Holds.{change_of, moved, NewHold, Weighs, pair_fits}
use Rattle.shows.specs.Shows.{both_few}
use Rattle.trades.specs.declared.Deal.{Deal}
use Rattle.trades.specs.declared.Party.{Party}

-- ---- what a trade says

abbrev pub event_of : Deal → Event
event_of d = Trade d.id d.taker d.maker (side d.side) (int d.price) d.qty d.taker_leaves d.maker_leaves

-- d says the event, and its numbers fit
pub record Says (e : Event) (d : Deal) : Type 0 where
  pub is : event_of d ≡ e
  pub fits : EventFits (event_of d)

abbrev pub taker_fill : Deal → Move
taker_fill d = Fill d.price d.qty d.taker_leaves

abbrev pub maker_fill : Deal → Move
maker_fill d = Fill d.price d.qty d.maker_leaves

-- where the order i stands
pub record Seen (i : ℕ) (p : Places) (xs : List ℕ) : Type 0 where
  pub lives : Sees C.order_live order number_of (cell xs) i p.live
  pub rests : Sees C.order_resting resting resting_number (cell xs) i p.resting

-- and what x does to it
pub record Weighed (i : ℕ) (x : Move) (p : Places) (s : Shift) (xs : List ℕ) : Type 0 where
  pub seen : Seen i p xs
  pub weighs : Weighs i x s (gateway (cell xs))

-- p is what is found of the order i, to which x happens
pub record Stands (i : ℕ) (x : Move) (p : Party) (xs : List ℕ) : Type 0 where
  pub lives : Sees C.order_live order number_of (cell xs) i p.live
  pub rests : Sees C.order_resting resting resting_number (cell xs) i p.resting
  pub weighs : Weighs i x p.shift (gateway (cell xs))
  pub tells : Tells i p.told (gateway (cell xs))

-- ---- the tests

abbrev pub numbers : (n taker maker : ℕ) → Bool
numbers n taker maker = leb taker n && (leb maker n && not (eqb taker maker))

abbrev pub both_show : Deal → Depth → Bool
both_show d x = shows d.maker d.qty x.resting && shows d.taker d.qty x.resting

abbrev pub tick_fits : Gateway → Bool
tick_fits g = ltb (length g.rest.trades) most_trades

abbrev pub few_notices : (taker maker : Shift) → Gateway → Bool
few_notices s t g = leb (s.notices + t.notices + length g.rest.notices) most_notices

abbrev pub trade_tests : ℕ → Deal → (taker maker : Party) → (room : ℕ) → Gateway → T.Tests
trade_tests n d a b room g =
    record {
      flying = in_flight n g.core;
      below = true;
      numbers = numbers n d.taker d.maker;
      agrees = both_show d g.rest.depth;
      holds = pair_fits a.shift b.shift g.core.ledger;
      levels = true;
      depth = both_few d.maker d.taker g.rest.depth;
      trades = tick_fits g;
      notices = few_notices a.shift b.shift g;
      room = leb (told_rows a.told + told_rows b.told) room;
    }

-- ---- the gateway after it

-- the taker is settled before the maker
abbrev pub settled : Deal → Gateway → Gateway
settled d g = moved (change_of d.maker (maker_fill d)) (moved (change_of d.taker (taker_fill d)) g)

-- the reference price, unless both are paper accounts
abbrev pub with_mark : Bool → ℕ → Ledger → Ledger
with_mark both p l = record { last = l.last; wallets = l.wallets; orders = l.orders; mark = cond both l.mark (Some (int p)); fee = l.fee }

abbrev pub marked : Bool → ℕ → Gateway → Gateway
marked both p g = with_ledger (with_mark both p) g

abbrev pub tick : ℕ → Deal → TradeTick
tick n d = record { seq = n; trade_id = d.id; side = side d.side; price = int d.price; qty = d.qty }

abbrev pub ticked : ℕ → Deal → Gateway → Gateway
ticked n d g = with_rest (λ r. pending r.depth (r.trades ++ (tick n d ∷ [])) r.notices r) g

abbrev pub in_depth : Deal → Depth → Depth
in_depth d = traded d.taker d.maker d.qty d.taker_leaves d.maker_leaves

abbrev pub dealt : ℕ → Deal → Bool → Gateway → Gateway
dealt n d both g = landed n (ticked n d (with_depth (in_depth d) (marked both d.price (settled d g))))

-- ---- what is asked

-- room for the notices of both
pub record Noticed (d : Deal) (g : Gateway) : Type 0 where
  pub few :
      length (change_notices (change_of d.taker (taker_fill d)) g.core.ledger)
      + length (change_notices (change_of d.maker (maker_fill d)) (change (change_of d.taker (taker_fill d)) g.core.ledger))
      + length g.rest.notices
      ≤ most_notices

-- they are two, and hold `taker` and `maker` then
pub record CanSettle (d : Deal) (taker maker : ℕ) (g : Gateway) : Type 0 where
  pub noticed : Noticed d g
  pub two : (d.taker ≡ d.maker → ⊥)
  pub taker_holds : NewHold d.taker (taker_fill d) taker g.core.ledger
  pub maker_holds : NewHold d.maker (maker_fill d) maker g.core.ledger

pub record CanDeal (n : ℕ) (d : Deal) (g : Gateway) : Type 0 where
  pub flying : in_flight n g.core ≡ true
  pub noticed : Noticed d g
  pub in_book : CanTrade d.taker d.maker d.qty d.taker_leaves d.maker_leaves g.rest.depth
  pub room : length g.rest.trades < most_trades

-- ---- the reports

abbrev pub fill_kind : Deal → Side → ℕ → ReportKind
fill_kind d z v = Kind.Fill d.id z (int d.price) d.qty v

-- the taker's before the maker's, which names the other side
abbrev pub deal_mail : ℕ → Deal → (taker maker : Told) → List Mail
deal_mail n d a b =
    told_mail n d.taker (fill_kind d (side d.side) d.taker_leaves) a
    ++ told_mail n d.maker (fill_kind d (opposite_of (side d.side)) d.maker_leaves) b

-- they went out, `count` of them
pub record Reports (n : ℕ) (d : Deal) (taker maker : Told) (count : ℕ) (xs ys out end : List ℕ) : Type 0 where
  pub count_is : count ≡ told_rows taker + told_rows maker
  pub sends : Sends 0 (deal_mail n d taker maker) (λ r. r) xs ys out end
