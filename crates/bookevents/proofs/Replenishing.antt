-- An iceberg shows its next part. Assumes nothing.
use Rattle.std.specs.Prelude.{Ok, Err}
use mathlib.Core.Path.{◌≡◌, refl, sym, ap, subst, ◌∙◌}
use mathlib.Core.Bool.{Bool, true}
use mathlib.Core.List.{List, append-nil}
use Prim.Native.Nat.{ℕ, ◌+◌, ◌≤◌}
use native.Mathlib.Omega.{arith}
use lib.Dec.{leb}
use lib.IntN.{ℤ}
use lib.ListN.{length}
use Rattle.orderbook.specs.declared.Side.{Side}
use Rattle.orderbook.specs.declared.Event.{Event}
use Rattle.orderbook.specs.declared.Event.TheVariants.{Replenished}
use Rattle.protocol.specs.declared.ReportKind.TheVariants as Kind
use Rattle.gateway.specs.Ledger.{changes, step}
use Rattle.gateway.specs.Core.{Core, names_below, numbers_agree, in_flight}
use Rattle.gateway.specs.Depth.{apply, depth_agrees, where_resting, levels_fit}
use Rattle.gateway.specs.Rest.{Rest}
use Rattle.gateway.specs.Deliver.{tell_owner, reports, tick_of}
use Rattle.gateway.specs.Invariant.{GatewayOk}
use Rattle.gateway.specs.Calls.{Gateway, call, deliver_event}
use Rattle.gateway.proofs.Feed.{shown_acts}
use Rattle.store.specs.Layout.{cell}
use Rattle.store.specs.View.{depth, gateway}
use Rattle.sound.specs.Sound.{Becomes, InPlace}
use Rattle.mailbox.specs.Mailbox.{places}
use Rattle.marketdata.specs.Marketdata.{with_depth, replenished}
use Rattle.outcome.specs.declared.Refusal.{Refusal}
use Rattle.outcome.specs.Refusals.{refusal_code}
use Rattle.outcome.specs.Between.{Between}
use Rattle.outcome.specs.Answers.{verdict, Gives}
use Rattle.outcome.specs.Parts.{Sends}
use Rattle.outcome.proofs.Laws.{then_becomes}
use Rattle.reporting.specs.declared.Told.{Told}
use Rattle.reporting.specs.Reporting.{told_mail, told_rows, Tells}
use Rattle.reporting.proofs.Laws.{told_length, rows_are}
use Rattle.delivery.specs.Delivery.{tests, call_tests, Judges, landed, after}
use Rattle.delivery.proofs.Calls.{judged_is, deliver_refused, deliver_done, trades_few, notices_stay, all_pass, told_room}
use Rattle.shows.proofs.Judged.{few_after}
use Rattle.shows.specs.Shows.{touched_few}
use Rattle.bookevents.specs.BookEvents.{replenished_tests, reshown, CanReshow}

module _ (n i : ℕ) (z : Side) (p : ℤ) (v : ℕ) (g : Gateway) where
  abbrev e : Event
  e = Replenished i z p v

  replenished_judges : GatewayOk g → (t : Told) → Tells i t g → (room : ℕ) → Judges n e room g (replenished_tests n i v t room g)
  unfolding names_below numbers_agree depth_agrees changes step apply tick_of reports
  replenished_judges ok t tells room =
      record {
        flying_is = refl;
        below_is = refl;
        numbers_is = λ _. refl;
        agrees_is = refl;
        holds_is = λ _. sym ok.core_is.holds;
        levels_is = λ _. refl;
        depth_is = λ _. sym (few_after g.rest.depth ok.rest_is.feed i (replenished v) (shown_acts v));
        trades_is = trades_few g ok;
        notices_is = λ _. notices_stay g ok;
        room_is = λ _. rows_are n i room (Kind.Replenished z p v) t g tells;
      }

  replenished_after : reshown n i v g ≡ after n e g
  unfolding changes step apply tick_of
  replenished_after = rw (append-nil g.rest.trades, append-nil g.rest.notices) refl

  replenished_told : (c : Core) (r : Rest) → tell_owner n i (Kind.Replenished z p v) c r ≡ reports n e c r
  unfolding reports
  replenished_told c r = refl

module _ (xs out : List ℕ) (n i v : ℕ) (b : Between xs) (t : Told) (tells : Tells i t (gateway (cell xs))) (p : ℕ) (room : p ≡ places (length out)) where
  pub can_reshow : 0 ≡ verdict (tests (replenished_tests n i v t p (gateway (cell xs)))) → CanReshow n i v (gateway (cell xs))
  can_reshow e =
      let a = all_pass (replenished_tests n i v t p (gateway (cell xs))) e in
      let f = b.ok.rest_is.feed in
      record {
        flying = a.0;
        judged = record { fits = a.1.1.1.1.1.0; few = few_after (depth (cell xs)) f i (replenished v) (shown_acts v) ∙ a.1.1.1.1.1.1.0 };
      }

  pub reshow_room : 0 ≡ verdict (tests (replenished_tests n i v t p (gateway (cell xs)))) → 0 + told_rows t ≤ places (length out)
  reshow_room e = told_room (replenished_tests n i v t p (gateway (cell xs))) (told_rows t) p (places (length out)) e refl room

  module _ (z : Side) (y : ℤ) where
    whole : (w : ℕ) → w ≡ verdict (tests (replenished_tests n i v t p (gateway (cell xs)))) → w ≡ verdict (call_tests n (Replenished i z y v) (places (length out)) (gateway (cell xs)))
    whole w w_is =
        w_is ∙ ap (λ r. verdict (tests (replenished_tests n i v t r (gateway (cell xs))))) room
        ∙ judged_is n (Replenished i z y v) (places (length out)) (gateway (cell xs)) (replenished_tests n i v t (places (length out)) (gateway (cell xs)))
        (replenished_judges n i z y v (gateway (cell xs)) b.ok t tells (places (length out)))

    pub replenished_refused : (x : Refusal) → refusal_code x ≡ verdict (tests (replenished_tests n i v t p (gateway (cell xs)))) → Gives (call (gateway (cell xs)) (deliver_event n (Replenished i z y v) (places (length out)))) (Err x) xs xs out out
    replenished_refused x e = deliver_refused xs out n (Replenished i z y v) tt b x (whole (refusal_code x) e)

    pub replenished_done : {ys zs end : List ℕ} (m : ℕ) (y' : ℤ) → y' ≡ y → 0 ≡ verdict (tests (replenished_tests n i v t p (gateway (cell xs)))) → m ≡ told_rows t → Becomes ys (reshown n i v (gateway (cell xs))) → Sends 0 (told_mail n i (Kind.Replenished z y' v) t) (λ x. x) ys zs out end →
        Gives (call (gateway (cell xs)) (deliver_event n (Replenished i z y v) (places (length out)))) (Ok m) xs zs out end
    replenished_done {ys} {zs} {end} m y' y_is e m_is d u =
        deliver_done xs out n (Replenished i z y v) tt b (whole 0 e) (told_mail n i (Kind.Replenished z y v) t)
        (tells.mail n (Kind.Replenished z y v) ∙ replenished_told n i z y v (gateway (cell xs)) (gateway (cell xs)).core (gateway (cell xs)).rest) m (m_is ∙ told_length n i (Kind.Replenished z y v) t)
        (subst (Becomes ys) (replenished_after n i z y v (gateway (cell xs))) d) (subst (λ (k : ℤ). Sends 0 (told_mail n i (Kind.Replenished z k v) t) (λ x. x) ys zs out end) y_is u)

-- ---- applying

module _ (xs : List ℕ) {ys : List ℕ} (n i v : ℕ) (can : CanReshow n i v (gateway (cell xs))) (a : InPlace xs ys (with_depth (where_resting i (replenished v)) (gateway (cell xs)))) where
  pub reshown_flying : in_flight n (gateway (cell ys)).core ≡ true
  reshown_flying = ap (λ (g : Gateway). in_flight n g.core) a.becomes.gateway_is ∙ can.flying

  pub reshown_becomes : {us : List ℕ} → Becomes us (landed n (gateway (cell ys))) → Becomes us (reshown n i v (gateway (cell xs)))
  reshown_becomes u = then_becomes (landed n) a.becomes u

-- ---- the judge

pub replenishing_judged : (xs : List ℕ) (n i y : ℕ) (t : Told) (room k v : ℕ) (f l d : Bool) → f ≡ in_flight n (gateway (cell xs)).core →
    l ≡ levels_fit (where_resting i (replenished y) (depth (cell xs))).resting → d ≡ touched_few i (depth (cell xs)) → k ≡ told_rows t →
    v ≡ verdict (tests (record { flying = f; below = true; numbers = leb i n; agrees = true; holds = true; levels = l; depth = d; trades = true; notices = true; room = leb k room })) →
    v ≡ verdict (tests (replenished_tests n i y t room (gateway (cell xs))))
replenishing_judged xs n i y t room k v f l d f_is l_is d_is k_is e = rw (f_is, l_is, d_is, k_is) at e

pub ruleset replenishing = (can_reshow, replenished_refused, replenished_done, reshown_flying, reshown_becomes, replenishing_judged, arith)
