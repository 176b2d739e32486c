-- Whom an event is reported to, as the code finds it.
use Rattle.std.specs.Prelude.{ℕ, ◌<◌, ◌≡◌, Bool, true, cond, ◌&&◌, List, [], ◌∷◌, Option, Some, None, is_some}
use Rattle.protocol.specs.declared.ReportKind.{ReportKind}
use Rattle.protocol.specs.declared.Outbound.TheVariants as Out
use Rattle.gateway.specs.Basics.{option}
use Rattle.gateway.specs.Limits.{session_slots}
use Rattle.gateway.specs.Core.{drop_below, in_flight}
use Rattle.gateway.specs.Rest.{Mail, send, Rest, session_at, session_of, is_open, logged_in}
use Rattle.gateway.specs.Deliver.{about, tell_owner, tell_sender}
use Rattle.gateway.specs.Calls.{Gateway}
use Rattle.store.specs.View.{optional}
use Rattle.reporting.specs.declared.Told.{Told}

-- the session, where it is open
abbrev pub where_open : Option ℕ → Rest → Option ℕ
where_open s r = option None (λ t. cond (is_open (session_at t r)) (Some t) None) s

-- a session's number, if it is one
abbrev pub InSlots : Option ℕ → Type 0
InSlots None = Unit {0}
InSlots (Some s) = s < session_slots

-- x is the open session of account a, if it has one
pub record Hears (a : ℕ) (x : Option ℕ) (r : Rest) : Type 0 where
  pub slot : InSlots x
  pub is : x ≡ where_open (session_of a r) r

-- the session is logged in for account a, and open
abbrev pub speaks_for : ℕ → ℕ → Rest → Bool
speaks_for s a r = logged_in a (session_at s r) && is_open (session_at s r)

-- x is the session `from`, which is plus one, or 0, where it still speaks for account a
pub record Sender (from a : ℕ) (x : Option ℕ) (r : Rest) : Type 0 where
  pub slot : InSlots x
  pub is : x ≡ option None (λ t. cond (speaks_for t a r) (Some t) None) (optional from)

-- the report of order i
abbrev pub told_mail : ℕ → ℕ → ReportKind → Told → List Mail
told_mail n i k t = option [] (λ s. send s (Out.Report (about n i t.client_ref k)) ∷ []) t.to

abbrev pub told_rows : Told → ℕ
told_rows t = cond (is_some t.to) 1 0

pub record Tells (i : ℕ) (t : Told) (g : Gateway) : Type 0 where
  pub slot : InSlots t.to
  pub mail : (n : ℕ) (k : ReportKind) → told_mail n i k t ≡ tell_owner n i k g.core g.rest

-- the report of a refused command, which is in flight
pub record TellsSender (n i : ℕ) (t : Told) (g : Gateway) : Type 0 where
  pub slot : InSlots t.to
  pub mail : in_flight n g.core ≡ true → (k : ReportKind) → told_mail n i k t ≡ tell_sender n i k g.core g.rest (drop_below n g.core.flights)
