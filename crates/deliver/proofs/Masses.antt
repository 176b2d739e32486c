-- Events that name no order: the tests, a mass cancel, and the call. Assumes nothing.
use Rattle.std.specs.Prelude.{Option, None, Ok, Err}
use mathlib.Core.Path.{◌≡◌, refl, sym, ap, subst, ◌∙◌}
use mathlib.Core.Bool.{Bool, true}
use mathlib.Core.List.{List, [], ◌∷◌, append-nil}
use Prim.Native.Nat.{ℕ, ◌+◌, ◌≤◌}
use native.Mathlib.Omega.{arith}
use lib.Dec.{ltb, leb}
use lib.ListN.{length}
use Rattle.orderbook.specs.declared.Phase.{Phase}
use Rattle.orderbook.specs.declared.Event.{Event}
use Rattle.orderbook.specs.declared.Event.TheVariants.{MassCancelled, PhaseChanged}
use Rattle.protocol.specs.declared.ReportKind.TheVariants as Kind
use Rattle.protocol.specs.declared.Outbound.TheVariants as Out
use Rattle.gateway.specs.Limits.{owner_slots}
use Rattle.gateway.specs.Ledger.{changes, step}
use Rattle.gateway.specs.Core.{Core, owner_limit, names_below, numbers_agree, in_flight}
use Rattle.gateway.specs.Depth.{Depth, apply, depth_agrees}
use Rattle.gateway.specs.Basics.{option}
use Rattle.gateway.specs.Rest.{Rest, send, session_of, report_to}
use Rattle.gateway.specs.Deliver.{about, reports, tick_of}
use Rattle.gateway.specs.Fits.{EventFits}
use Rattle.gateway.specs.Invariant.{GatewayOk}
use Rattle.gateway.specs.Calls.{Gateway, call, deliver_event}
use Rattle.store.specs.Layout.{cell}
use Rattle.store.specs.View.{gateway}
use Rattle.clients.proofs.Links.{session_of_past}
use Rattle.sound.specs.Sound.{State, Becomes}
use Rattle.mailbox.specs.Mailbox.{places}
use Rattle.outcome.specs.declared.Refusal.{Refusal}
use Rattle.outcome.specs.Refusals.{refusal_code}
use Rattle.outcome.specs.Between.{Between}
use Rattle.outcome.specs.Answers.{verdict, Gives}
use Rattle.outcome.specs.Parts.{rest_of, Sends}
use Rattle.reporting.specs.declared.Told.{Told}
use Rattle.reporting.specs.Reporting.{Hears, told_mail, told_rows}
use Rattle.reporting.proofs.Laws.{told_length, to_open}
use Rattle.delivery.specs.Delivery.{tests, call_tests, Judges, landed, after}
use Rattle.delivery.proofs.Calls.{judged_is, deliver_refused, deliver_done, trades_few, notices_stay, all_pass, told_room}
use Rattle.deliver.specs.Delivering.{TellsAccount, bare_tests}

-- ---- such an event

-- it names accounts below b where the limit is m, and changes nothing
pub record Bare (b : ℕ → Bool) (e : Event) : Type 0 where
  pub names : (m : ℕ) → names_below m e ≡ b m
  pub numbers : (n : ℕ) (c : Bool) → numbers_agree n c e ≡ true
  pub agrees : (d : Depth) → depth_agrees e d ≡ true
  pub none_changes : (n : ℕ) → changes n e ≡ []
  pub stays : (d : Depth) → apply e d ≡ d
  pub no_tick : (n : ℕ) → tick_of n e ≡ []
  pub fits : EventFits e

pub mass_bare : (o k : ℕ) → Bare (ltb o) (MassCancelled o k)
unfolding names_below numbers_agree depth_agrees changes apply tick_of
mass_bare o k =
    record { names = λ m. refl; numbers = λ n c. refl; agrees = λ d. refl; none_changes = λ n. refl; stays = λ d. refl; no_tick = λ n. refl; fits = tt }

pub phase_bare : (p : Phase) → Bare (λ m. true) (PhaseChanged p)
unfolding names_below numbers_agree depth_agrees changes apply tick_of
phase_bare p =
    record { names = λ m. refl; numbers = λ n c. refl; agrees = λ d. refl; none_changes = λ n. refl; stays = λ d. refl; no_tick = λ n. refl; fits = tt }

module _ {b : ℕ → Bool} {e : Event} (s : Bare b e) (n : ℕ) (g : Gateway) where
  bare_judges : GatewayOk g → (below : Bool) → below ≡ b (owner_limit g.core) → (k : ℕ) → k ≡ length (reports n e g.core g.rest) → (room : ℕ) → Judges n e room g (bare_tests n below k room g)
  unfolding step
  bare_judges ok below below_is k k_is room =
      let f = ok.rest_is.feed in
      record {
        flying_is = refl;
        below_is = below_is ∙ sym (s.names (owner_limit g.core));
        numbers_is = λ _. sym (s.numbers n _);
        agrees_is = sym (s.agrees g.rest.depth);
        holds_is = λ _. rw (s.none_changes n) (sym ok.core_is.holds);
        levels_is = λ _. rw (s.stays g.rest.depth) (sym f.fit);
        depth_is = λ _. rw (s.stays g.rest.depth) (sym f.few);
        trades_is = rw (s.no_tick n) (trades_few g ok);
        notices_is = λ _. rw (s.none_changes n) (notices_stay g ok);
        room_is = λ _. ap (λ l. leb l room) k_is;
      }

  bare_after : landed n g ≡ after n e g
  unfolding step
  bare_after = rw (s.none_changes n, s.stays g.rest.depth, s.no_tick n, append-nil g.rest.trades, append-nil g.rest.notices) refl

-- ---- the judge

pub bare_judged : (xs : List ℕ) (n : ℕ) (below : Bool) (rows room v : ℕ) (f : Bool) → f ≡ in_flight n (gateway (cell xs)).core →
    v ≡ verdict (tests (record { flying = f; below = below; numbers = true; agrees = true; holds = true; levels = true; depth = true; trades = true; notices = true; room = leb rows room })) →
    v ≡ verdict (tests (bare_tests n below rows room (gateway (cell xs))))
bare_judged xs n below rows room v f f_is e = rw f_is at e

module _ (xs out : List ℕ) (n : ℕ) (below : Bool) (k p : ℕ) (room : p ≡ places (length out)) (z : 0 ≡ verdict (tests (bare_tests n below k p (gateway (cell xs))))) where
  pub bare_flying : in_flight n (gateway (cell xs)).core ≡ true
  bare_flying = (all_pass (bare_tests n below k p (gateway (cell xs))) z).0

  pub bare_room : 0 + k ≤ places (length out)
  bare_room = told_room (bare_tests n below k p (gateway (cell xs))) k p (places (length out)) z refl room

module _ {b : ℕ → Bool} {e : Event} (s : Bare b e) (xs out : List ℕ) (n : ℕ) (bt : Between xs) (below : Bool) (below_is : below ≡ b (owner_limit (gateway (cell xs)).core)) (k : ℕ)
    (k_is : k ≡ length (reports n e (gateway (cell xs)).core (rest_of xs))) (p : ℕ) (room : p ≡ places (length out)) where
  whole : (v : ℕ) → v ≡ verdict (tests (bare_tests n below k p (gateway (cell xs)))) → v ≡ verdict (call_tests n e (places (length out)) (gateway (cell xs)))
  whole v v_is =
      v_is ∙ ap (λ r. verdict (tests (bare_tests n below k r (gateway (cell xs))))) room
      ∙ judged_is n e (places (length out)) (gateway (cell xs)) (bare_tests n below k (places (length out)) (gateway (cell xs))) (bare_judges s n (gateway (cell xs)) bt.ok below below_is k k_is (places (length out)))

  pub bare_refused : (x : Refusal) → refusal_code x ≡ verdict (tests (bare_tests n below k p (gateway (cell xs)))) → Gives (call (gateway (cell xs)) (deliver_event n e (places (length out)))) (Err x) xs xs out out
  bare_refused x h = deliver_refused xs out n e s.fits bt x (whole (refusal_code x) h)

  pub bare_done : {ys zs end : List ℕ} → 0 ≡ verdict (tests (bare_tests n below k p (gateway (cell xs)))) → Becomes ys (landed n (gateway (cell xs))) → Sends 0 (reports n e (gateway (cell xs)).core (rest_of xs)) (λ x. x) ys zs out end →
      Gives (call (gateway (cell xs)) (deliver_event n e (places (length out)))) (Ok k) xs zs out end
  bare_done {ys} z d h =
      deliver_done xs out n e s.fits bt (whole 0 z) (reports n e (gateway (cell xs)).core (rest_of xs)) refl k k_is (subst (Becomes ys) (bare_after s n (gateway (cell xs))) d) h

-- ---- a mass cancel

pub account_told : (xs : List ℕ) (o : ℕ) (to : Option ℕ) → Hears o to (rest_of xs) → TellsAccount o (record { to = to; client_ref = 0 }) (gateway (cell xs))
account_told xs o to h =
    record {
      slot = h.slot;
      mail = λ n k. ap (option [] (λ (s : ℕ). send s (Out.Report (about n 0 0 k)) ∷ [])) h.is ∙ sym (to_open o (about n 0 0 k) (rest_of xs));
    }

pub nobody_told : (xs : List ℕ) → State xs → (o : ℕ) → owner_slots ≤ o → TellsAccount o (record { to = None; client_ref = 0 }) (gateway (cell xs))
nobody_told xs st o l =
    record { slot = tt; mail = λ n k. sym (ap (λ s. report_to s (about n 0 0 k) (rest_of xs)) (session_of_past (cell xs) o st.sound.clients.linked l)) }

mass_reports : (n o k : ℕ) (c : Core) (r : Rest) → reports n (MassCancelled o k) c r ≡ report_to (session_of o r) (about n 0 0 (Kind.MassCancelled k)) r
unfolding reports
mass_reports n o k c r = refl

module _ (xs out : List ℕ) (n o c : ℕ) (b : Between xs) (below : Bool) (below_is : below ≡ ltb o (owner_limit (gateway (cell xs)).core)) (t : Told) (tells : TellsAccount o t (gateway (cell xs))) (k : ℕ)
    (k_is : k ≡ told_rows t) (p : ℕ) (room : p ≡ places (length out)) where
  mail_is : told_mail n 0 (Kind.MassCancelled c) t ≡ reports n (MassCancelled o c) (gateway (cell xs)).core (rest_of xs)
  mail_is = tells.mail n (Kind.MassCancelled c) ∙ sym (mass_reports n o c (gateway (cell xs)).core (rest_of xs))

  rows_are : k ≡ length (reports n (MassCancelled o c) (gateway (cell xs)).core (rest_of xs))
  rows_are = k_is ∙ told_length n 0 (Kind.MassCancelled c) t ∙ ap length mail_is

  pub mass_refused : (x : Refusal) → refusal_code x ≡ verdict (tests (bare_tests n below k p (gateway (cell xs)))) → Gives (call (gateway (cell xs)) (deliver_event n (MassCancelled o c) (places (length out)))) (Err x) xs xs out out
  mass_refused = bare_refused (mass_bare o c) xs out n b below below_is k rows_are p room

  pub mass_done : {ys zs end : List ℕ} → 0 ≡ verdict (tests (bare_tests n below k p (gateway (cell xs)))) → Becomes ys (landed n (gateway (cell xs))) → Sends 0 (told_mail n 0 (Kind.MassCancelled c) t) (λ x. x) ys zs out end →
      Gives (call (gateway (cell xs)) (deliver_event n (MassCancelled o c) (places (length out)))) (Ok k) xs zs out end
  mass_done {ys} {zs} {end} z d h =
      bare_done (mass_bare o c) xs out n b below below_is k rows_are p room z d (subst (λ ms. Sends 0 ms (λ x. x) ys zs out end) mail_is h)

-- the rows of a report by their count
pub told_fits : {k rows room : ℕ} → k ≡ rows → 0 + k ≤ room → 0 + rows ≤ room
told_fits e l = omega (arith, e, l)

pub ruleset masses = (bare_judged, account_told, nobody_told, mass_refused, arith)
