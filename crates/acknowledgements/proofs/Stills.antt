-- Events that move nothing but the run of numbers. Assumes nothing.
use Rattle.std.specs.Prelude.{Option, Ok, Err}
use mathlib.Core.Path.{◌≡◌, refl, sym, ap, subst, ◌∙◌}
use mathlib.Core.Bool.{Bool, true}
use mathlib.Core.List.{List, append-nil}
use Prim.Native.Nat.{ℕ, ◌+◌, ◌≤◌}
use native.Mathlib.Omega.{arith}
use lib.Dec.{leb}
use lib.ListN.{length}
use lib.IntN.{ℤ}
use Rattle.orderbook.specs.declared.Side.{Side}
use Rattle.orderbook.specs.declared.Event.{Event}
use Rattle.orderbook.specs.declared.Event.TheVariants.{Accepted, StopPlaced, Triggered}
use Rattle.protocol.specs.declared.ReportKind.{ReportKind}
use Rattle.protocol.specs.declared.ReportKind.TheVariants as Kind
use Rattle.gateway.specs.Ledger.{changes, step}
use Rattle.gateway.specs.Core.{names_below, numbers_agree, in_flight}
use Rattle.gateway.specs.Depth.{apply, depth_agrees}
use Rattle.gateway.specs.Deliver.{reports, tick_of}
use Rattle.gateway.specs.Invariant.{GatewayOk}
use Rattle.gateway.specs.Calls.{Gateway, call, deliver_event}
use Rattle.store.specs.Layout.{cell}
use Rattle.store.specs.View.{gateway}
use Rattle.sound.specs.Sound.{Becomes}
use Rattle.mailbox.specs.Mailbox.{places}
use Rattle.outcome.specs.declared.Refusal.{Refusal}
use Rattle.outcome.specs.Refusals.{refusal_code}
use Rattle.outcome.specs.Between.{Between}
use Rattle.outcome.specs.Answers.{verdict, Gives}
use Rattle.outcome.specs.Parts.{Sends}
use Rattle.reporting.specs.declared.Told.{Told}
use Rattle.reporting.specs.Reporting.{told_mail, told_rows, Tells}
use Rattle.reporting.proofs.Laws.{told_length, rows_are}
use Rattle.delivery.specs.Delivery.{tests, call_tests, Judges, landed, after}
use Rattle.delivery.proofs.Calls.{judged_is, deliver_refused, deliver_done, trades_few, notices_stay, all_pass, told_room}
use Rattle.acknowledgements.specs.Acknowledgements.{Still, quiet_tests}

pub accepted_still : (i : ℕ) → Still i Kind.Accepted (Accepted i)
unfolding names_below numbers_agree depth_agrees changes apply tick_of reports
accepted_still i =
    record { names = λ m. refl; numbers = λ n b. refl; agrees = λ d. refl; none_changes = λ n. refl; stays = λ d. refl; no_tick = λ n. refl; told = λ n c r. refl; fits = tt }

pub triggered_still : (i : ℕ) → Still i Kind.Triggered (Triggered i)
unfolding names_below numbers_agree depth_agrees changes apply tick_of reports
triggered_still i =
    record { names = λ m. refl; numbers = λ n b. refl; agrees = λ d. refl; none_changes = λ n. refl; stays = λ d. refl; no_tick = λ n. refl; told = λ n c r. refl; fits = tt }

pub stop_still : (i : ℕ) (s : Side) (t u : ℤ) (l : Option ℤ) (v : ℕ) → u ≡ t → Still i (Kind.StopPlaced s u l v) (StopPlaced i s t l v)
unfolding names_below numbers_agree depth_agrees changes apply tick_of reports
stop_still i s t u l v e =
    rw e (record { names = λ m. refl; numbers = λ n b. refl; agrees = λ d. refl; none_changes = λ n. refl; stays = λ d. refl; no_tick = λ n. refl; told = λ n c r. refl; fits = tt })

module _ (n i : ℕ) (k : ReportKind) (e : Event) (s : Still i k e) (g : Gateway) where
  quiet_judges : GatewayOk g → (t : Told) → Tells i t g → (room : ℕ) → Judges n e room g (quiet_tests n i t room g)
  unfolding step
  quiet_judges ok t tells room =
      let f = ok.rest_is.feed in
      record {
        flying_is = refl;
        below_is = sym (s.names _);
        numbers_is = λ _. sym (s.numbers n _);
        agrees_is = sym (s.agrees g.rest.depth);
        holds_is = λ _. rw (s.none_changes n) (sym ok.core_is.holds);
        levels_is = λ _. rw (s.stays g.rest.depth) (sym f.fit);
        depth_is = λ _. rw (s.stays g.rest.depth) (sym f.few);
        trades_is = rw (s.no_tick n) (trades_few g ok);
        notices_is = λ _. rw (s.none_changes n) (notices_stay g ok);
        room_is = λ _. rows_are n i room k t g tells ∙ ap (λ l. leb (length l) room) (sym (s.told n g.core g.rest));
      }

  quiet_after : landed n g ≡ after n e g
  unfolding step
  quiet_after = rw (s.none_changes n, s.stays g.rest.depth, s.no_tick n, append-nil g.rest.trades, append-nil g.rest.notices) refl

module _ (xs out : List ℕ) (n i : ℕ) (t : Told) (tells : Tells i t (gateway (cell xs))) (p : ℕ) (room : p ≡ places (length out)) (z : 0 ≡ verdict (tests (quiet_tests n i t p (gateway (cell xs))))) where
  pub quiet_flying : in_flight n (gateway (cell xs)).core ≡ true
  quiet_flying = (all_pass (quiet_tests n i t p (gateway (cell xs))) z).0

  pub quiet_room : 0 + told_rows t ≤ places (length out)
  quiet_room = told_room (quiet_tests n i t p (gateway (cell xs))) (told_rows t) p (places (length out)) z refl room

module _ (xs out : List ℕ) (n i : ℕ) (k : ReportKind) (e : Event) (s : Still i k e) (b : Between xs) (t : Told) (tells : Tells i t (gateway (cell xs))) (p : ℕ) (room : p ≡ places (length out)) where
  whole : (v : ℕ) → v ≡ verdict (tests (quiet_tests n i t p (gateway (cell xs)))) → v ≡ verdict (call_tests n e (places (length out)) (gateway (cell xs)))
  whole v v_is =
      v_is ∙ ap (λ r. verdict (tests (quiet_tests n i t r (gateway (cell xs))))) room
      ∙ judged_is n e (places (length out)) (gateway (cell xs)) (quiet_tests n i t (places (length out)) (gateway (cell xs))) (quiet_judges n i k e s (gateway (cell xs)) b.ok t tells (places (length out)))

  pub quiet_refused : (why : Refusal) → refusal_code why ≡ verdict (tests (quiet_tests n i t p (gateway (cell xs)))) → Gives (call (gateway (cell xs)) (deliver_event n e (places (length out)))) (Err why) xs xs out out
  quiet_refused why h = deliver_refused xs out n e s.fits b why (whole (refusal_code why) h)

  module _ (z : 0 ≡ verdict (tests (quiet_tests n i t p (gateway (cell xs))))) where
    pub quiet_done : {ys zs end : List ℕ} (m : ℕ) → m ≡ told_rows t → Becomes ys (landed n (gateway (cell xs))) → Sends 0 (told_mail n i k t) (λ x. x) ys zs out end →
        Gives (call (gateway (cell xs)) (deliver_event n e (places (length out)))) (Ok m) xs zs out end
    quiet_done {ys} m m_is d h =
        deliver_done xs out n e s.fits b (whole 0 z) (told_mail n i k t)
        (tells.mail n k ∙ sym (s.told n (gateway (cell xs)).core (gateway (cell xs)).rest)) m (m_is ∙ told_length n i k t)
        (subst (Becomes ys) (quiet_after n i k e s (gateway (cell xs))) d) h

-- ---- the judge

pub quiet_judged : (xs : List ℕ) (n i : ℕ) (t : Told) (room k v : ℕ) (f : Bool) → f ≡ in_flight n (gateway (cell xs)).core → k ≡ told_rows t →
    v ≡ verdict (tests (record { flying = f; below = true; numbers = leb i n; agrees = true; holds = true; levels = true; depth = true; trades = true; notices = true; room = leb k room })) →
    v ≡ verdict (tests (quiet_tests n i t room (gateway (cell xs))))
quiet_judged xs n i t room k v f f_is k_is e = rw (f_is, k_is) at e

pub ruleset quiets = (quiet_refused, quiet_flying, quiet_done, quiet_judged, accepted_still, triggered_still, stop_still, arith)
