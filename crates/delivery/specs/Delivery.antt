-- Delivering an event: its tests as the code makes them, and the gateway after it.
use Rattle.std.specs.Prelude.{ℕ, ◌≡◌, Bool, true, cond, [], ◌∷◌, ◌++◌, leb, length, Result, Ok, Err}
use Rattle.orderbook.specs.declared.Event.{Event}
use Rattle.gateway.specs.Limits.{most_trades, most_notices, out_of_range, sequence, full, too_short, outside, inconsistent}
use Rattle.gateway.specs.Ledger.{event}
use Rattle.gateway.specs.Core.{Tests, system, core_step, drop_below, first_places, owner_limit, in_flight, names_below, numbers_agree, fits_after}
use Rattle.gateway.specs.Depth.{apply, depth_agrees, levels_fit, depth_few}
use Rattle.gateway.specs.Rest.{with_delivered}
use Rattle.gateway.specs.Deliver.{reports, rest_after, deliver_tests}
use Rattle.gateway.specs.Calls.{Gateway}
use Rattle.outcome.specs.declared.Refusal.{Refusal}
use Rattle.delivery.specs.declared.Tests as T

-- one test: the refusal where it fails
abbrev pub check : Bool → Refusal → Result (Unit {0}) Refusal
check ok why = cond ok (Ok tt) (Err why)

-- the tests by their answers, in 01's order
abbrev pub tests : T.Tests → Tests ℕ
tests t =
    (sequence, t.flying)
    ∷ (out_of_range, t.below)
    ∷ (inconsistent, t.numbers)
    ∷ (inconsistent, t.agrees)
    ∷ (outside, t.holds)
    ∷ (outside, t.levels)
    ∷ (full, t.depth)
    ∷ (full, t.trades)
    ∷ (full, t.notices)
    ∷ (too_short, t.room)
    ∷ []

-- what the call judges, with `room` places lent
abbrev pub call_tests : ℕ → Event → (room : ℕ) → Gateway → Tests ℕ
call_tests n e room g = deliver_tests n e g.core g.rest ++ ((too_short, leb (length (reports n e g.core g.rest)) room) ∷ [])

-- each answer is that of the definitions' test, where those before it passed
pub record Judges (n : ℕ) (e : Event) (room : ℕ) (g : Gateway) (t : T.Tests) : Type 0 where
  pub flying_is : t.flying ≡ in_flight n g.core
  pub below_is : t.below ≡ names_below (owner_limit g.core) e
  pub numbers_is : in_flight n g.core ≡ true → t.numbers ≡ numbers_agree n (first_places (drop_below n g.core.flights)) e
  pub agrees_is : t.agrees ≡ depth_agrees e g.rest.depth
  pub holds_is : t.numbers ≡ true → t.holds ≡ fits_after (event n e) g.core
  pub levels_is : t.agrees ≡ true → t.levels ≡ levels_fit (apply e g.rest.depth).resting
  pub depth_is : t.numbers ≡ true → t.depth ≡ depth_few (apply e g.rest.depth)
  pub trades_is : t.trades ≡ leb (length (rest_after n e g.core g.rest).trades) most_trades
  pub notices_is : t.numbers ≡ true → t.notices ≡ leb (length (rest_after n e g.core g.rest).notices) most_notices
  pub room_is : in_flight n g.core ≡ true → t.room ≡ leb (length (reports n e g.core g.rest)) room

-- an event of command n: those below n have had theirs, and n is delivered
abbrev pub landed : ℕ → Gateway → Gateway
landed n g =
    record { core = record { ledger = g.core.ledger; flights = drop_below n g.core.flights; accounts = g.core.accounts }; rest = with_delivered n g.rest }

-- the whole event, before its reports are stamped
abbrev pub after : ℕ → Event → Gateway → Gateway
after n e g = record { core = core_step system (event n e) g.core; rest = rest_after n e g.core g.rest }
