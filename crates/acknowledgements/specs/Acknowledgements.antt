-- Events of one order that leave the book as it is: the tests in the code's words, what is asked before they are applied, and the gateway after them.
use Rattle.std.specs.Prelude.{ℕ, ◌+◌, ◌≤◌, ◌≡◌, Bool, true, not, ◌&&◌, [], leb, length}
use Rattle.orderbook.specs.declared.Event.{Event}
use Rattle.protocol.specs.declared.ReportKind.{ReportKind}
use Rattle.gateway.specs.Limits.{most_notices}
use Rattle.gateway.specs.Ledger.{changes}
use Rattle.gateway.specs.Core.{Core, in_flight, names_below, numbers_agree}
use Rattle.gateway.specs.Depth.{Depth, apply, depth_agrees}
use Rattle.gateway.specs.Rest.{Rest}
use Rattle.gateway.specs.Fits.{EventFits}
use Rattle.gateway.specs.Deliver.{tell_owner, reports, tick_of, change_notices}
use Rattle.gateway.specs.Calls.{Gateway}
use Rattle.store.specs.View.{Store, gateway, in_slot}
use Rattle.reporting.specs.declared.Told.{Told}
use Rattle.reporting.specs.Reporting.{told_rows}
use Rattle.delivery.specs.declared.Tests as T
use Rattle.delivery.specs.Delivery.{landed}
use Rattle.holds.specs.declared.Move.TheVariants.{Retire}
use Rattle.holds.specs.declared.Shift.{Shift}
use Rattle.holds.specs.Holds.{change_of, moved, shift_fits, few_notices}

-- ---- nothing but the run of numbers moves

-- what the definitions say of such an event: it is reported to the owner of the order i
pub record Still (i : ℕ) (k : ReportKind) (e : Event) : Type 0 where
  pub names : (m : ℕ) → names_below m e ≡ true
  pub numbers : (n : ℕ) (b : Bool) → numbers_agree n b e ≡ leb i n
  pub agrees : (d : Depth) → depth_agrees e d ≡ true
  pub none_changes : (n : ℕ) → changes n e ≡ []
  pub stays : (d : Depth) → apply e d ≡ d
  pub no_tick : (n : ℕ) → tick_of n e ≡ []
  pub told : (n : ℕ) (c : Core) (r : Rest) → reports n e c r ≡ tell_owner n i k c r
  pub fits : EventFits e

abbrev pub quiet_tests : (n i : ℕ) → Told → (room : ℕ) → Gateway → T.Tests
quiet_tests n i t room g =
    record {
      flying = in_flight n g.core;
      below = true;
      numbers = leb i n;
      agrees = true;
      holds = true;
      levels = true;
      depth = true;
      trades = true;
      notices = true;
      room = leb (told_rows t) room;
    }

-- ---- a command is refused

-- whether the command n places an order, by what is stored of it
abbrev pub flight_places : ℕ → Store → Bool
flight_places n s = (in_slot s n).places

-- a new order ends
abbrev pub order_refused : (n : ℕ) → Shift → Told → (room : ℕ) → Gateway → T.Tests
order_refused n h t room g =
    record {
      flying = in_flight n g.core;
      below = true;
      numbers = true;
      agrees = true;
      holds = shift_fits h g.core.ledger;
      levels = true;
      depth = true;
      trades = true;
      notices = few_notices h g;
      room = leb (told_rows t) room;
    }

abbrev pub retired : (n : ℕ) → Gateway → Gateway
retired n g = landed n (moved (change_of n Retire) g)

pub record CanRetire (n : ℕ) (g : Gateway) : Type 0 where
  pub flying : in_flight n g.core ≡ true
  pub noticed : length (change_notices (change_of n Retire) g.core.ledger) + length g.rest.notices ≤ most_notices

-- another command changes nothing, and names an order of an earlier one
abbrev pub command_refused : (n i : ℕ) → Told → (room : ℕ) → Store → T.Tests
command_refused n i t room s =
    record {
      flying = in_flight n (gateway s).core;
      below = true;
      numbers = leb i n && not (flight_places n s);
      agrees = true;
      holds = true;
      levels = true;
      depth = true;
      trades = true;
      notices = true;
      room = leb (told_rows t) room;
    }
