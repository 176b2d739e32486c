-- A message that is received: what becomes of it, by its session. Assumes nothing.
use Rattle.std.specs.Prelude.{Option, Some, None, option_map}
use mathlib.Core.Path.{◌≡◌, refl, sym, ap, ◌∙◌}
use mathlib.Core.Bool.{true, false, false≢true}
use mathlib.Core.Logic.{⊎_elim}
use mathlib.Core.List.{List, []}
use Prim.Native.Nat.{ℕ, ◌≤◌, ◌<◌}
use lib.ListN.{get_or-eq_default}
use Rattle.protocol.specs.declared.Inbound.{Inbound}
use Rattle.le.proofs.Laws.{lt_or_le}
use Rattle.gateway.specs.Limits.{session_slots}
use Rattle.gateway.specs.Rest.{Session, Rest, session_at, account_of, session_of, is_present, at_time, set_received}
use Rattle.gateway.specs.Entry.{Plan, sends, greet, hear, receive}
use Rattle.gateway.specs.Calls.{plan, within, receive_from}
use Rattle.store.specs.Layout.{cell}
use Rattle.store.specs.View.{gateway}
use Rattle.outcome.specs.Between.{Between}
use Rattle.outcome.specs.Parts.{rest_of, heard, Speaks}
use Rattle.outcome.proofs.Changed.{session_from_changed}
use Rattle.outcome.proofs.Walk.{slots}

-- who is logged in stays so
pub session_of_heard : (a s t : ℕ) (r : Rest) → session_of a (heard s t r) ≡ session_of a r
session_of_heard a s t r = session_from_changed (set_received t) kept 0 a s r.sessions
  where
    kept : (o : Option Session) → account_of (option_map (set_received t) o) ≡ account_of o
    kept None = refl
    kept (Some x) = refl

-- who is present has a slot
pub present_slot : (xs : List ℕ) (s : ℕ) → is_present (session_at s (rest_of xs)) ≡ true → s < session_slots
present_slot xs s e = ⊎_elim (λ l. l) (λ l. absurd (gone (past l))) (lt_or_le s session_slots)
  where
    past : session_slots ≤ s → session_at s (rest_of xs) ≡ None
    past l = get_or-eq_default (rest_of xs).sessions None {n = s} (rw (slots xs) l)

    gone : session_at s (rest_of xs) ≡ None → ⊥
    gone h = false≢true (sym (ap is_present h) ∙ e)

pub speaks : (xs : List ℕ) (s : ℕ) (a : Option ℕ) → Between xs → is_present (session_at s (rest_of xs)) ≡ true → account_of (session_at s (rest_of xs)) ≡ a → Speaks s a xs
speaks xs s a b e f = record { between = b; slot = present_slot xs s e; present = e; account = f }

module _ (xs : List ℕ) (s : ℕ) (m : Inbound) (t room : ℕ) where
  -- nobody is heard: the clock is set all the same
  pub unheard_plan : is_present (session_at s (rest_of xs)) ≡ false →
      plan (gateway (cell xs)).core (rest_of xs) (receive_from s m t room) ≡ within room (sends [] (at_time t (rest_of xs)))
  unfolding plan receive
  unheard_plan e = rw e refl

  -- a session without an account
  pub greet_plan : Speaks s None xs → plan (gateway (cell xs)).core (rest_of xs) (receive_from s m t room) ≡ within room (greet s m (gateway (cell xs)).core (heard s t (rest_of xs)))
  unfolding plan receive
  greet_plan h = rw (h.present, h.account) refl

  -- one that is logged in
  pub hear_plan : (a : ℕ) → Speaks s (Some a) xs → plan (gateway (cell xs)).core (rest_of xs) (receive_from s m t room) ≡ within room (hear s a m (gateway (cell xs)).core (heard s t (rest_of xs)))
  unfolding plan receive
  hear_plan a h = rw (h.present, h.account) refl
