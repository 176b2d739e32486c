-- Events that name no order: whom they are reported to, and their tests in the code's words.
use Rattle.std.specs.Prelude.{ℕ, ◌≡◌, Bool, true, List, leb}
use Rattle.orderbook.specs.declared.Phase.{Phase}
use Rattle.protocol.specs.declared.ReportKind.{ReportKind}
use Rattle.protocol.specs.declared.ReportKind.TheVariants as Kind
use Rattle.gateway.specs.Core.{in_flight}
use Rattle.gateway.specs.Rest.{Mail, session_of, report, report_to, each_session}
use Rattle.gateway.specs.Deliver.{about}
use Rattle.gateway.specs.Calls.{Gateway}
use Rattle.outcome.specs.Parts.{Steps}
use Rattle.reporting.specs.declared.Told.{Told}
use Rattle.reporting.specs.Reporting.{InSlots, told_mail}
use Rattle.delivery.specs.declared.Tests as T

-- to the session of account a
pub record TellsAccount (a : ℕ) (t : Told) (g : Gateway) : Type 0 where
  pub slot : InSlots t.to
  pub mail : (n : ℕ) (k : ReportKind) → told_mail n 0 k t ≡ report_to (session_of a g.rest) (about n 0 0 k) g.rest

-- to each open session
abbrev pub phase_step : ℕ → Phase → Steps
phase_step n p g s = report s (about n 0 0 (Kind.PhaseChanged p)) g.rest

abbrev pub phase_mail : ℕ → Phase → Gateway → List Mail
phase_mail n p g = each_session (λ s x. report s (about n 0 0 (Kind.PhaseChanged p)) g.rest) g.rest

-- an event of command n that changes nothing else: an account's number is in range or not, and so many rows are sent
abbrev pub bare_tests : (n : ℕ) (below : Bool) (rows room : ℕ) → Gateway → T.Tests
bare_tests n below rows room g =
    record {
      flying = in_flight n g.core;
      below = below;
      numbers = true;
      agrees = true;
      holds = true;
      levels = true;
      depth = true;
      trades = true;
      notices = true;
      room = leb rows room;
    }
