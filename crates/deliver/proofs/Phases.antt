-- A phase change, to each open session. Assumes nothing.
use Rattle.std.specs.Prelude.{Ok, Err}
use mathlib.Core.Path.{◌≡◌, refl, sym, ap, subst, ◌∙◌}
use mathlib.Core.Bool.{Bool, true, false, cond}
use mathlib.Core.List.{List, [], ◌∷◌}
use Prim.Native.Nat.{ℕ, ◌+◌, ◌≤◌, ◌<◌}
use native.Mathlib.Omega.{arith}
use lib.ListN.{length}
use Rattle.orderbook.specs.declared.Phase.{Phase}
use Rattle.orderbook.specs.declared.Event.TheVariants.{PhaseChanged}
use Rattle.protocol.specs.declared.ReportKind.TheVariants as Kind
use Rattle.protocol.specs.declared.Outbound.TheVariants as Out
use Rattle.gateway.specs.Limits.{session_slots}
use Rattle.gateway.specs.Rest.{Mail, send, session_at, is_open, report, stamped}
use Rattle.gateway.specs.Deliver.{about, reports}
use Rattle.gateway.specs.Calls.{Gateway, call, deliver_event}
use Rattle.store.specs.Layout.{cell}
use Rattle.store.specs.View.{gateway}
use Rattle.sound.specs.Sound.{State, Becomes}
use Rattle.mailbox.specs.Mailbox.{places}
use Rattle.outcome.specs.declared.Refusal.{Refusal}
use Rattle.outcome.specs.Refusals.{refusal_code}
use Rattle.outcome.specs.Between.{Between}
use Rattle.outcome.specs.Answers.{verdict, Gives}
use Rattle.outcome.specs.Parts.{with_rest, rest_of, Sends, Stepped, steps}
use Rattle.outcome.proofs.Changed.{sent_open}
use Rattle.outcome.proofs.Walk.{slots, sends_none, stamped_keeps}
use Rattle.outcome.proofs.Steps.{steps_sessions}
use Rattle.delivery.specs.Delivery.{tests, landed}
use Rattle.deliver.specs.Delivering.{phase_step, phase_mail, bare_tests}
use Rattle.deliver.proofs.Masses.{phase_bare, bare_refused, bare_done}

-- ---- one session

module _ (xs : List ℕ) (n : ℕ) (p : Phase) (s : ℕ) (b : Bool) (b_is : b ≡ is_open (session_at s (rest_of xs))) where
  step_is : phase_step n p (gateway (cell xs)) s ≡ cond b (send s (Out.Report (about n 0 0 (Kind.PhaseChanged p))) ∷ []) []
  step_is = ap (λ (c : Bool). cond c (send s (Out.Report (about n 0 0 (Kind.PhaseChanged p))) ∷ []) []) (sym b_is)

  told_is : b ≡ true → phase_step n p (gateway (cell xs)) s ≡ send s (Out.Report (about n 0 0 (Kind.PhaseChanged p))) ∷ []
  told_is e = step_is ∙ ap (λ (c : Bool). cond c (send s (Out.Report (about n 0 0 (Kind.PhaseChanged p))) ∷ []) []) e

  quiet_is : b ≡ false → phase_step n p (gateway (cell xs)) s ≡ []
  quiet_is e = step_is ∙ ap (λ (c : Bool). cond c (send s (Out.Report (about n 0 0 (Kind.PhaseChanged p))) ∷ []) []) e

  pub row_one : b ≡ true → 1 ≡ length (phase_step n p (gateway (cell xs)) s)
  row_one e = sym (ap length (told_is e))

  pub row_none : b ≡ false → 0 ≡ length (phase_step n p (gateway (cell xs)) s)
  row_none e = sym (ap length (quiet_is e))

  pub visit_room : b ≡ true → (i room : ℕ) → i + length (phase_step n p (gateway (cell xs)) s) ≤ room → i < room
  visit_room e i room l = omega (arith, ap length (told_is e), l)

  pub visit_told : b ≡ true → {ys : List ℕ} (out : List ℕ) {end : List ℕ} (i : ℕ) → Sends i (send s (Out.Report (about n 0 0 (Kind.PhaseChanged p))) ∷ []) (λ x. x) xs ys out end →
      Stepped (phase_step n p) i s (i + 1) xs ys out end
  visit_told e out i t = record { next_is = omega (arith, ap length (told_is e)); sends = rw (told_is e) t }

  pub visit_quiet : State xs → b ≡ false → (out : List ℕ) (i : ℕ) → Stepped (phase_step n p) i s i xs xs out out
  visit_quiet st e out i = record { next_is = omega (arith, ap length (quiet_is e)); sends = rw (quiet_is e) (sends_none i out st) }

-- ---- all of them

pub phase_keeps : (n : ℕ) (p : Phase) (g : Gateway) (ms : List Mail) (s : ℕ) → phase_step n p (with_rest (stamped ms) g) s ≡ phase_step n p g s
phase_keeps n p g ms s = ap (λ (c : Bool). cond c (send s (Out.Report (about n 0 0 (Kind.PhaseChanged p))) ∷ []) []) (stamped_keeps is_open sent_open s ms g.rest)

pub phase_each : (n : ℕ) (p : Phase) (xs : List ℕ) (m : ℕ) → m ≡ session_slots → steps (phase_step n p) (gateway (cell xs)) m ≡ phase_mail n p (gateway (cell xs))
phase_each n p xs m e =
    steps_sessions (λ s x. report s (about n 0 0 (Kind.PhaseChanged p)) (rest_of xs)) (phase_step n p) (gateway (cell xs)) (λ j. refl) m (e ∙ sym (slots xs))

-- ---- the call

module _ (xs out : List ℕ) (n : ℕ) (p : Phase) (b : Between xs) (k : ℕ) (k_is : k ≡ length (phase_mail n p (gateway (cell xs)))) (w : ℕ) (room : w ≡ places (length out)) where
  mail_is : phase_mail n p (gateway (cell xs)) ≡ reports n (PhaseChanged p) (gateway (cell xs)).core (rest_of xs)
  unfolding reports
  mail_is = refl

  pub phase_refused : (x : Refusal) → refusal_code x ≡ verdict (tests (bare_tests n true k w (gateway (cell xs)))) → Gives (call (gateway (cell xs)) (deliver_event n (PhaseChanged p) (places (length out)))) (Err x) xs xs out out
  phase_refused = bare_refused (phase_bare p) xs out n b true refl k (k_is ∙ ap length mail_is) w room

  module _ (z : 0 ≡ verdict (tests (bare_tests n true k w (gateway (cell xs))))) {ys : List ℕ} (d : Becomes ys (landed n (gateway (cell xs)))) where
    -- the run is not looked at
    landed_mail : phase_mail n p (gateway (cell ys)) ≡ phase_mail n p (gateway (cell xs))
    landed_mail = ap (phase_mail n p) d.gateway_is

    pub phase_room : 0 + k ≤ places (length out) → 0 + length (phase_mail n p (gateway (cell ys))) ≤ places (length out)
    phase_room l = omega (arith, l, k_is, ap length landed_mail)

    pub phase_done : {zs end : List ℕ} (i : ℕ) → Stepped (λ g j. phase_mail n p g) 0 0 i ys zs out end →
        Gives (call (gateway (cell xs)) (deliver_event n (PhaseChanged p) (places (length out)))) (Ok k) xs zs out end
    phase_done {zs} {end} i h =
        bare_done (phase_bare p) xs out n b true refl k (k_is ∙ ap length mail_is) w room z d
        (subst (λ ms. Sends 0 ms (λ x. x) ys zs out end) (landed_mail ∙ mail_is) h.sends)

pub ruleset phases = (row_one, row_none, visit_room, visit_told, visit_quiet, phase_refused, arith)
