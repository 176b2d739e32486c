-- A command is refused: a new order ends, another command changes nothing. Assumes nothing.
use Rattle.std.specs.Prelude.{Ok, Err, Result}
use mathlib.Core.Path.{◌≡◌, refl, sym, ap, ap₂, subst, ◌∙◌}
use mathlib.Core.Bool.{Bool, true, false, cond, not, ◌&&◌, ◌||◌}
use mathlib.Core.List.{List, [], ◌∷◌, append-nil}
use Prim.Native.Nat.{ℕ, ◌+◌, ◌≤◌, ◌<◌}
use native.Mathlib.Omega.{arith}
use lib.Dec.{eqb, leb}
use lib.ListN.{length}
use Rattle.orderbook.specs.declared.RejectReason.{RejectReason}
use Rattle.orderbook.specs.declared.Event.TheVariants.{Rejected}
use Rattle.protocol.specs.declared.ReportKind.{ReportKind}
use Rattle.protocol.specs.declared.ReportKind.TheVariants as Kind
use Rattle.gateway.specs.Ledger.{retire, changes, step}
use Rattle.gateway.specs.Core.{Core, names_below, numbers_agree, drop_below, first_places, in_flight}
use Rattle.gateway.specs.Depth.{apply, depth_agrees}
use Rattle.gateway.specs.Rest.{Rest}
use Rattle.gateway.specs.Deliver.{tell_sender, reports, tick_of, change_notices}
use Rattle.gateway.specs.Invariant.{GatewayOk}
use Rattle.gateway.specs.Calls.{Gateway, call, deliver_event}
use Rattle.store.specs.Layout.{cell}
use Rattle.store.specs.View.{word, ledger, gateway, in_slot}
use Rattle.sound.specs.Sound.{State, Becomes}
use Rattle.mailbox.specs.Mailbox.{places}
use Rattle.outcome.specs.declared.Refusal.{Refusal}
use Rattle.outcome.specs.Refusals.{refusal_code}
use Rattle.outcome.specs.Between.{Between}
use Rattle.outcome.specs.Answers.{verdict, Gives}
use Rattle.outcome.specs.Parts.{Sends}
use Rattle.outcome.proofs.Laws.{then_becomes}
use Rattle.reporting.specs.declared.Told.{Told}
use Rattle.reporting.specs.Reporting.{told_mail, told_rows, TellsSender}
use Rattle.reporting.proofs.Laws.{told_length}
use Rattle.delivery.specs.Delivery.{tests, call_tests, Judges, landed, after}
use Rattle.delivery.proofs.Calls.{judged_is, deliver_refused, deliver_done, trades_few, notices_stay, all_pass, told_room}
use Rattle.holds.specs.declared.Move.TheVariants.{Retire}
use Rattle.holds.specs.declared.Shift.{Shift}
use Rattle.holds.specs.Holds.{change_of, moved, Weighs, shift_fits}
use Rattle.holds.proofs.Laws.{one_fits, notices_come, few_noticed, few_is, weighed, noticed_room}
use Rattle.store.specs.Cells as C
use Rattle.gateway.specs.Limits.{most_notices}
use Rattle.acknowledgements.specs.Acknowledgements.{flight_places, order_refused, retired, CanRetire, command_refused}
use borrow.Author.Tests.{eq-eqb, ne_eqb, le-leb, lt-leb}
use Rattle.gateway.specs.Core as CoreFlight
use Rattle.pending.specs.declared.Flight as Flight
use Rattle.pending.specs.Pending as Pending
use Rattle.pending.proofs.Flights.{first_in_run}

-- the report's row
rows_of : (n i room : ℕ) (k : ReportKind) (t : Told) (g : Gateway) → TellsSender n i t g → in_flight n g.core ≡ true →
    leb (told_rows t) room ≡ leb (length (tell_sender n i k g.core g.rest (drop_below n g.core.flights))) room
rows_of n i room k t g s f = ap (λ l. leb l room) (told_length n i k t ∙ ap length (s.mail f k))

refused_told : (n i : ℕ) (why : RejectReason) (c : Core) (r : Rest) → tell_sender n i (Kind.Rejected why) c r (drop_below n c.flights) ≡ reports n (Rejected i why) c r
unfolding reports
refused_told n i why c r = refl

-- ---- a new order

module _ (n : ℕ) (why : RejectReason) (g : Gateway) where
  pub own : changes n (Rejected n why) ≡ retire n ∷ []
  unfolding changes
  own = ap (λ (b : Bool). cond b (retire n ∷ []) []) (eq-eqb n n refl)

  pub own_number : (b : Bool) → numbers_agree n b (Rejected n why) ≡ true
  unfolding numbers_agree
  own_number b = ap₂ (λ (x y : Bool). x && (not b || y)) (le-leb n n (omega arith)) (eq-eqb n n refl) ∙ go b
    where
      go : (x : Bool) → (not x || true) ≡ true
      go true = refl
      go false = refl

  order_judges : GatewayOk g → (h : Shift) → Weighs n Retire h g → (t : Told) → TellsSender n n t g → (room : ℕ) → Judges n (Rejected n why) room g (order_refused n h t room g)
  unfolding names_below depth_agrees step apply tick_of
  order_judges ok h w t tells room =
      record {
        flying_is = refl;
        below_is = refl;
        numbers_is = λ _. sym (own_number _);
        agrees_is = refl;
        holds_is = λ _. rw own (one_fits w ok);
        levels_is = λ _. sym ok.rest_is.feed.fit;
        depth_is = λ _. sym ok.rest_is.feed.few;
        trades_is = trades_few g ok;
        notices_is = λ _. rw own (notices_come g w);
        room_is = λ f. rows_of n n room (Kind.Rejected why) t g tells f ∙ ap (λ l. leb (length l) room) (refused_told n n why g.core g.rest);
      }

  order_after : retired n g ≡ after n (Rejected n why) g
  unfolding step apply tick_of
  order_after = rw (own, append-nil g.rest.trades, append-nil (change_notices (retire n) g.core.ledger)) refl

module _ (xs out : List ℕ) (n : ℕ) (why : RejectReason) (b : Between xs) (h : Shift) (w : Weighs n Retire h (gateway (cell xs))) (t : Told) (tells : TellsSender n n t (gateway (cell xs))) (p : ℕ)
    (room : p ≡ places (length out)) where
  order_whole : (v : ℕ) → v ≡ verdict (tests (order_refused n h t p (gateway (cell xs)))) → v ≡ verdict (call_tests n (Rejected n why) (places (length out)) (gateway (cell xs)))
  order_whole v v_is =
      v_is ∙ ap (λ r. verdict (tests (order_refused n h t r (gateway (cell xs))))) room
      ∙ judged_is n (Rejected n why) (places (length out)) (gateway (cell xs)) (order_refused n h t (places (length out)) (gateway (cell xs)))
      (order_judges n why (gateway (cell xs)) b.ok h w t tells (places (length out)))

  pub order_not : (x : Refusal) → refusal_code x ≡ verdict (tests (order_refused n h t p (gateway (cell xs)))) → Gives (call (gateway (cell xs)) (deliver_event n (Rejected n why) (places (length out)))) (Err x) xs xs out out
  order_not x e = deliver_refused xs out n (Rejected n why) tt b x (order_whole (refusal_code x) e)

  module _ (z : 0 ≡ verdict (tests (order_refused n h t p (gateway (cell xs))))) where
    passed_flying : in_flight n (gateway (cell xs)).core ≡ true
    passed_flying = (all_pass (order_refused n h t p (gateway (cell xs))) z).0

    pub order_room : 0 + told_rows t ≤ places (length out)
    order_room = told_room (order_refused n h t p (gateway (cell xs))) (told_rows t) p (places (length out)) z refl room

    pub can_retire : CanRetire n (gateway (cell xs))
    can_retire =
        let a = all_pass (order_refused n h t p (gateway (cell xs))) z in
        record { flying = a.0; noticed = few_noticed (gateway (cell xs)) w a.1.1.1.1.1.1.1.1.0 }

    pub order_done : {ys zs end : List ℕ} (m : ℕ) → m ≡ told_rows t → Becomes ys (retired n (gateway (cell xs))) → Sends 0 (told_mail n n (Kind.Rejected why) t) (λ x. x) ys zs out end →
        Gives (call (gateway (cell xs)) (deliver_event n (Rejected n why) (places (length out)))) (Ok m) xs zs out end
    order_done {ys} m m_is d u =
        deliver_done xs out n (Rejected n why) tt b (order_whole 0 z) (told_mail n n (Kind.Rejected why) t)
        (tells.mail passed_flying (Kind.Rejected why) ∙ refused_told n n why (gateway (cell xs)).core (gateway (cell xs)).rest) m (m_is ∙ told_length n n (Kind.Rejected why) t)
        (subst (Becomes ys) (order_after n why (gateway (cell xs))) d) u

module _ (xs : List ℕ) {ys : List ℕ} (n : ℕ) (can : CanRetire n (gateway (cell xs))) (a : Becomes ys (moved (change_of n Retire) (gateway (cell xs)))) where
  pub retired_flying : in_flight n (gateway (cell ys)).core ≡ true
  retired_flying = ap (λ (g : Gateway). in_flight n g.core) a.gateway_is ∙ can.flying

  pub retired_becomes : {us : List ℕ} → Becomes us (landed n (gateway (cell ys))) → Becomes us (retired n (gateway (cell xs)))
  retired_becomes u = then_becomes (landed n) a u

-- ---- another command

-- whether it places, as stored
module _ (xs : List ℕ) (n i : ℕ) where
  pub earlier : i ≤ n → (f : Flight.Flight) → Pending.in_flight_as n f ≡ in_slot (cell xs) n → eqb f.places 0 ≡ (leb i n && not (flight_places n (cell xs)))
  earlier l f f_is = sym (ap₂ (λ (x y : Bool). x && not y) (le-leb i n l) (sym (ap (λ (x : CoreFlight.Flight). x.places) f_is)) ∙ go (eqb f.places 0))
    where
      go : (x : Bool) → not (not x) ≡ x
      go true = refl
      go false = refl

  pub later : n < i → false ≡ (leb i n && not (flight_places n (cell xs)))
  later l = sym (ap (λ (x : Bool). x && not (flight_places n (cell xs))) (lt-leb i n l))

module _ (xs : List ℕ) (st : State xs) (n i : ℕ) (ne : i ≡ n → ⊥) (why : RejectReason) where
  abbrev g : Gateway
  g = gateway (cell xs)

  pub none_changes : changes n (Rejected i why) ≡ []
  unfolding changes
  none_changes = ap (λ (b : Bool). cond b (retire i ∷ []) []) (ne_eqb i n ne)

  pub other_number : in_flight n g.core ≡ true → (leb i n && not (flight_places n (cell xs))) ≡ numbers_agree n (first_places (drop_below n g.core.flights)) (Rejected i why)
  unfolding numbers_agree
  other_number f =
      let w = first_in_run (cell xs) st.sound.tables.run n f in
      sym
      (ap₂ (λ (x y : Bool). leb i n && (not x || y)) (ap first_places w.are) (ne_eqb i n ne) ∙ ap (λ (x : Bool). leb i n && x) (go (not (flight_places n (cell xs)))))
    where
      go : (x : Bool) → (x || false) ≡ x
      go true = refl
      go false = refl

  command_judges : GatewayOk g → (t : Told) → TellsSender n i t g → (room : ℕ) → Judges n (Rejected i why) room g (command_refused n i t room (cell xs))
  unfolding names_below depth_agrees step apply tick_of
  command_judges ok t tells room =
      record {
        flying_is = refl;
        below_is = refl;
        numbers_is = λ f. other_number f;
        agrees_is = refl;
        holds_is = λ _. rw none_changes (sym ok.core_is.holds);
        levels_is = λ _. sym ok.rest_is.feed.fit;
        depth_is = λ _. sym ok.rest_is.feed.few;
        trades_is = trades_few g ok;
        notices_is = λ _. rw none_changes (notices_stay g ok);
        room_is = λ f. rows_of n i room (Kind.Rejected why) t g tells f ∙ ap (λ l. leb (length l) room) (refused_told n i why g.core g.rest);
      }

  command_after : landed n g ≡ after n (Rejected i why) g
  unfolding step apply tick_of
  command_after = rw (none_changes, append-nil g.rest.trades, append-nil g.rest.notices) refl

module _ (xs out : List ℕ) (n i : ℕ) (ne : i ≡ n → ⊥) (why : RejectReason) (b : Between xs) (t : Told) (tells : TellsSender n i t (gateway (cell xs))) (p : ℕ) (room : p ≡ places (length out)) where
  command_whole : (v : ℕ) → v ≡ verdict (tests (command_refused n i t p (cell xs))) → v ≡ verdict (call_tests n (Rejected i why) (places (length out)) (gateway (cell xs)))
  command_whole v v_is =
      v_is ∙ ap (λ r. verdict (tests (command_refused n i t r (cell xs)))) room
      ∙ judged_is n (Rejected i why) (places (length out)) (gateway (cell xs)) (command_refused n i t (places (length out)) (cell xs)) (command_judges xs b.state n i ne why b.ok t tells (places (length out)))

  pub command_not : (x : Refusal) → refusal_code x ≡ verdict (tests (command_refused n i t p (cell xs))) → Gives (call (gateway (cell xs)) (deliver_event n (Rejected i why) (places (length out)))) (Err x) xs xs out out
  command_not x e = deliver_refused xs out n (Rejected i why) tt b x (command_whole (refusal_code x) e)

  module _ (z : 0 ≡ verdict (tests (command_refused n i t p (cell xs)))) where
    pub command_flying : in_flight n (gateway (cell xs)).core ≡ true
    command_flying = (all_pass (command_refused n i t p (cell xs)) z).0

    pub command_room : 0 + told_rows t ≤ places (length out)
    command_room = told_room (command_refused n i t p (cell xs)) (told_rows t) p (places (length out)) z refl room

    pub command_done : {ys zs end : List ℕ} (m : ℕ) → m ≡ told_rows t → Becomes ys (landed n (gateway (cell xs))) → Sends 0 (told_mail n i (Kind.Rejected why) t) (λ x. x) ys zs out end →
        Gives (call (gateway (cell xs)) (deliver_event n (Rejected i why) (places (length out)))) (Ok m) xs zs out end
    command_done {ys} m m_is d u =
        deliver_done xs out n (Rejected i why) tt b (command_whole 0 z) (told_mail n i (Kind.Rejected why) t)
        (tells.mail command_flying (Kind.Rejected why) ∙ refused_told n i why (gateway (cell xs)).core (gateway (cell xs)).rest) m (m_is ∙ told_length n i (Kind.Rejected why) t)
        (subst (Becomes ys) (command_after xs b.state n i ne why) d) u

-- the refusal of the order of its own number
pub own_refusal : (xs out : List ℕ) {ys end : List ℕ} (n i : ℕ) (why : RejectReason) (r : Result ℕ Refusal) → i ≡ n → Gives (call (gateway (cell xs)) (deliver_event n (Rejected n why) (places (length out)))) r xs ys out end →
    Gives (call (gateway (cell xs)) (deliver_event n (Rejected i why) (places (length out)))) r xs ys out end
own_refusal xs out {ys} {end} n i why r e h = subst (λ (k : ℕ). Gives (call (gateway (cell xs)) (deliver_event n (Rejected k why) (places (length out)))) r xs ys out end) (sym e) h

-- ---- the judges

pub order_judged : (xs : List ℕ) (n : ℕ) (h : Shift) (t : Told) (room k v : ℕ) (f a w : Bool) → f ≡ in_flight n (gateway (cell xs)).core → a ≡ shift_fits h (ledger (cell xs)) →
    w ≡ leb (h.notices + word (cell xs) C.notice_rows) most_notices → k ≡ told_rows t →
    v ≡ verdict (tests (record { flying = f; below = true; numbers = true; agrees = true; holds = a; levels = true; depth = true; trades = true; notices = w; room = leb k room })) →
    v ≡ verdict (tests (order_refused n h t room (gateway (cell xs))))
order_judged xs n h t room k v f a w f_is a_is w_is k_is e = rw (f_is, a_is, few_is xs h w w_is, k_is) at e

pub command_judged : (xs : List ℕ) (n i : ℕ) (t : Told) (room k v : ℕ) (f m : Bool) → f ≡ in_flight n (gateway (cell xs)).core → m ≡ (leb i n && not (flight_places n (cell xs))) → k ≡ told_rows t →
    v ≡ verdict (tests (record { flying = f; below = true; numbers = m; agrees = true; holds = true; levels = true; depth = true; trades = true; notices = true; room = leb k room })) →
    v ≡ verdict (tests (command_refused n i t room (cell xs)))
command_judged xs n i t room k v f m f_is m_is k_is e = rw (f_is, m_is, k_is) at e

pub ruleset refusing = (order_not, order_done, can_retire, retired_flying, retired_becomes, earlier, later, command_not, command_flying, command_done, own_refusal, order_judged, command_judged, weighed, noticed_room, arith)
