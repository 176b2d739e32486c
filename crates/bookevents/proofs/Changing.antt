-- Events that change a live order, and its level where it rests. Assumes nothing.
use Rattle.std.specs.Prelude.{Option, Ok, Err}
use mathlib.Core.Path.{◌≡◌, refl, sym, ap, subst, ◌∙◌}
use mathlib.Core.Bool.{Bool, true}
use mathlib.Core.List.{List, [], ◌∷◌, append-nil}
use Prim.Native.Nat.{ℕ, ◌+◌, ◌≤◌, ◌<◌}
use native.Mathlib.Omega.{arith}
use borrow.Author.Tests.{leb-true}
use lib.Dec.{leb}
use lib.IntN.{ℤ}
use lib.ListN.{length}
use Rattle.orderbook.specs.declared.CancelReason.{CancelReason}
use Rattle.orderbook.specs.declared.CancelReason.TheVariants.{Requested}
use Rattle.orderbook.specs.declared.Event.{Event}
use Rattle.orderbook.specs.declared.Event.TheVariants.{Cancelled, Modified}
use Rattle.protocol.specs.declared.ReportKind.{ReportKind}
use Rattle.protocol.specs.declared.ReportKind.TheVariants as Kind
use Rattle.words.specs.Words.{int, modulus}
use Rattle.clients.proofs.Laws.{word_fits}
use Rattle.gateway.specs.Ledger.{reprice, changes, step}
use Rattle.gateway.specs.Core.{Core, names_below, numbers_agree, in_flight}
use Rattle.gateway.specs.Depth.{Depth, apply, depth_agrees, take_off, modified, where_resting, levels_fit}
use Rattle.gateway.specs.Depth as D
use Rattle.gateway.specs.Rest.{Rest}
use Rattle.gateway.specs.Deliver.{tell_owner, reports, tick_of, change_notices}
use Rattle.gateway.specs.Fits.{EventFits}
use Rattle.gateway.specs.Invariant.{GatewayOk}
use Rattle.gateway.specs.Calls.{Gateway, call, deliver_event}
use Rattle.gateway.proofs.Feed.{Ascending, Acts, off_acts, modified_acts}
use Rattle.gateway.proofs.Depths as Depths
use Rattle.gateway.proofs.Depths.{cancelled_fits, modified_fits}
use Rattle.store.specs.Layout.{cell}
use Rattle.store.specs.View.{word, resting, ledger, depth, gateway}
use Rattle.orders.specs.Orders.{Sees}
use Rattle.sound.specs.Sound.{Becomes, InPlace}
use Rattle.sound.proofs.Kept.{seen_resting}
use Rattle.mailbox.specs.Mailbox.{places}
use Rattle.marketdata.specs.Marketdata.{with_depth, Roomy}
use Rattle.outcome.specs.declared.Refusal.{Refusal}
use Rattle.outcome.specs.Refusals.{refusal_code}
use Rattle.outcome.specs.Between.{Between}
use Rattle.outcome.specs.Answers.{verdict, Gives}
use Rattle.outcome.specs.Parts.{Sends}
use Rattle.outcome.proofs.Laws.{then_becomes}
use Rattle.reporting.specs.declared.Told.{Told}
use Rattle.reporting.specs.Reporting.{told_mail, told_rows, Tells}
use Rattle.reporting.proofs.Laws.{told_length, rows_are}
use Rattle.delivery.specs.declared.Tests.{Tests}
use Rattle.delivery.specs.Delivery.{tests, call_tests, Judges, landed, after}
use Rattle.delivery.proofs.Calls.{judged_is, deliver_refused, deliver_done, trades_few, all_pass, told_room}
use Rattle.holds.specs.declared.Move.{Move}
use Rattle.holds.specs.declared.Move.TheVariants.{Retire, Reprice}
use Rattle.holds.specs.declared.Shift.{Shift}
use Rattle.holds.specs.Holds.{change_of, moved, Weighs, shift_fits, few_notices}
use Rattle.holds.proofs.Laws.{one_fits, notices_come, few_noticed, few_is, weighed, noticed_room}
use Rattle.shows.proofs.Judged.{few_after}
use Rattle.store.specs.Cells as C
use Rattle.shows.specs.Shows.{touched, touched_few}
use Rattle.gateway.specs.Limits.{most_notices, most_changed}
use Rattle.bookevents.specs.BookEvents.{changed_tests, in_book, CanChange, Repriced}

-- x happens to the live order i, and f where it rests
record Changing (n i : ℕ) (x : Move) (f : D.Resting → Depth → Depth) (k : ReportKind) (e : Event) : Type 0 where
  names : (m : ℕ) → names_below m e ≡ true
  numbers : (b : Bool) → numbers_agree n b e ≡ leb i n
  agrees : (d : Depth) → depth_agrees e d ≡ true
  one_change : changes n e ≡ change_of i x ∷ []
  applies : (d : Depth) → apply e d ≡ where_resting i f d
  acts : Acts f
  stays_fit : (d : Depth) → Ascending d → levels_fit d.resting ≡ true → levels_fit (where_resting i f d).resting ≡ true
  no_tick : tick_of n e ≡ []
  told : (c : Core) (r : Rest) → reports n e c r ≡ tell_owner n i k c r
  fits : EventFits e

cancelling : (n i q : ℕ) (why : CancelReason) → Changing n i Retire take_off (Kind.Cancelled q why) (Cancelled i q why)
unfolding names_below numbers_agree depth_agrees changes apply tick_of reports
cancelling n i q why =
    record {
      names = λ m. refl;
      numbers = λ b. refl;
      agrees = λ d. refl;
      one_change = refl;
      applies = λ d. refl;
      acts = off_acts;
      stays_fit = λ d a h. cancelled_fits i d a h;
      no_tick = refl;
      told = λ c r. refl;
      fits = tt;
    }

modifying : (n i : ℕ) (p : ℤ) (q v w : ℕ) → Repriced p v w → Changing n i (Reprice w v) (modified (int w) v) (Kind.Modified p q v) (Modified i p q v)
unfolding names_below numbers_agree depth_agrees changes apply tick_of reports
modifying n i p q v w h =
    record {
      names = λ m. refl;
      numbers = λ b. refl;
      agrees = λ d. refl;
      one_change = ap (λ z. reprice i z v ∷ []) (sym h.is);
      applies = λ d. ap (λ z. where_resting i (modified z v) d) (sym h.is);
      acts = modified_acts (int w) v;
      stays_fit = λ d a l. modified_fits i d a l (int w) v;
      no_tick = refl;
      told = λ c r. refl;
      fits = (h.price_fits, h.leaves_fit);
    }

-- its tests, by what was weighed and whom it is told
abbrev weighed_tests : (n i : ℕ) → Shift → Told → (room : ℕ) → Gateway → Tests
weighed_tests n i h t room g = changed_tests n i (shift_fits h g.core.ledger) (few_notices h g) (told_rows t) room g

-- room for the level of an order, where it rests
touched_roomy : (g : Gateway) → GatewayOk g → (i : ℕ) (f : D.Resting → Depth → Depth) → Acts f → touched_few i g.rest.depth ≡ true → Roomy (where_resting i f g.rest.depth)
touched_roomy g ok i f acts h =
    omega (arith, ap length (Depths.after i f g.rest.depth ok.rest_is.feed.ascending acts).changed_is, leb-true (length (touched i g.rest.depth.resting g.rest.depth.changed)) most_changed h)

module _ {n i : ℕ} {x : Move} {f : D.Resting → Depth → Depth} {k : ReportKind} {e : Event} (s : Changing n i x f k e) (g : Gateway) where
  changing_judges : GatewayOk g → (h : Shift) → Weighs i x h g → (t : Told) → Tells i t g → (room : ℕ) → Judges n e room g (weighed_tests n i h t room g)
  unfolding step
  changing_judges ok h w t tells room =
      let o = ok.rest_is.feed in
      record {
        flying_is = refl;
        below_is = sym (s.names _);
        numbers_is = λ _. sym (s.numbers _);
        agrees_is = sym (s.agrees g.rest.depth);
        holds_is = λ _. rw s.one_change (one_fits w ok);
        levels_is = λ _. rw (s.applies g.rest.depth) (sym (s.stays_fit g.rest.depth o.ascending o.fit));
        depth_is = λ _. rw (s.applies g.rest.depth) (sym (few_after g.rest.depth o i f s.acts));
        trades_is = rw s.no_tick (trades_few g ok);
        notices_is = λ _. rw s.one_change (notices_come g w);
        room_is = λ _. rows_are n i room k t g tells ∙ ap (λ l. leb (length l) room) (sym (s.told g.core g.rest));
      }

  changing_after : in_book n i x f g ≡ after n e g
  unfolding step
  changing_after = rw (s.one_change, s.applies g.rest.depth, s.no_tick, append-nil g.rest.trades, append-nil (change_notices (change_of i x) g.core.ledger)) refl

module _ {n i : ℕ} {x : Move} {f : D.Resting → Depth → Depth} {k : ReportKind} {e : Event} (s : Changing n i x f k e) (xs out : List ℕ) (b : Between xs) (h : Shift) (w : Weighs i x h (gateway (cell xs))) (t : Told)
    (tells : Tells i t (gateway (cell xs))) (p : ℕ) (room : p ≡ places (length out)) where
  whole : (v : ℕ) → v ≡ verdict (tests (weighed_tests n i h t p (gateway (cell xs)))) → v ≡ verdict (call_tests n e (places (length out)) (gateway (cell xs)))
  whole v v_is =
      v_is ∙ ap (λ r. verdict (tests (weighed_tests n i h t r (gateway (cell xs))))) room
      ∙ judged_is n e (places (length out)) (gateway (cell xs)) (weighed_tests n i h t (places (length out)) (gateway (cell xs))) (changing_judges s (gateway (cell xs)) b.ok h w t tells (places (length out)))

  changing_refused : (x : Refusal) → refusal_code x ≡ verdict (tests (weighed_tests n i h t p (gateway (cell xs)))) → Gives (call (gateway (cell xs)) (deliver_event n e (places (length out)))) (Err x) xs xs out out
  changing_refused x c = deliver_refused xs out n e s.fits b x (whole (refusal_code x) c)

  module _ (z : 0 ≡ verdict (tests (weighed_tests n i h t p (gateway (cell xs))))) where
    can_change : CanChange n i x f (gateway (cell xs))
    can_change =
        let a = all_pass (weighed_tests n i h t p (gateway (cell xs))) z in
        record {
          flying = a.0;
          noticed = few_noticed (gateway (cell xs)) w a.1.1.1.1.1.1.1.1.0;
          room = touched_roomy (gateway (cell xs)) b.ok i f s.acts a.1.1.1.1.1.1.0;
        }

    changing_room : 0 + told_rows t ≤ places (length out)
    changing_room = told_room (weighed_tests n i h t p (gateway (cell xs))) (told_rows t) p (places (length out)) z refl room

    changing_done : {ys zs end : List ℕ} (m : ℕ) → m ≡ told_rows t → Becomes ys (in_book n i x f (gateway (cell xs))) → Sends 0 (told_mail n i k t) (λ y. y) ys zs out end →
        Gives (call (gateway (cell xs)) (deliver_event n e (places (length out)))) (Ok m) xs zs out end
    changing_done {ys} m m_is d u =
        deliver_done xs out n e s.fits b (whole 0 z) (told_mail n i k t) (tells.mail n k ∙ sym (s.told (gateway (cell xs)).core (gateway (cell xs)).rest)) m (m_is ∙ told_length n i k t)
        (subst (Becomes ys) (changing_after s (gateway (cell xs))) d) u

-- ---- cancelled, and modified

module _ (xs out : List ℕ) (n i : ℕ) (b : Between xs) (h : Shift) (t : Told) (tells : Tells i t (gateway (cell xs))) (p : ℕ) (room : p ≡ places (length out)) where
  module _ (q : ℕ) (why : CancelReason) (w : Weighs i Retire h (gateway (cell xs))) where
    pub cancelled_refused : (x : Refusal) → refusal_code x ≡ verdict (tests (weighed_tests n i h t p (gateway (cell xs)))) → Gives (call (gateway (cell xs)) (deliver_event n (Cancelled i q why) (places (length out)))) (Err x) xs xs out out
    cancelled_refused = changing_refused (cancelling n i q why) xs out b h w t tells p room

    pub cancelled_done : {ys zs end : List ℕ} (m : ℕ) → 0 ≡ verdict (tests (weighed_tests n i h t p (gateway (cell xs)))) → m ≡ told_rows t → Becomes ys (in_book n i Retire take_off (gateway (cell xs))) →
        Sends 0 (told_mail n i (Kind.Cancelled q why) t) (λ y. y) ys zs out end →
        Gives (call (gateway (cell xs)) (deliver_event n (Cancelled i q why) (places (length out)))) (Ok m) xs zs out end
    cancelled_done m z = changing_done (cancelling n i q why) xs out b h w t tells p room z m

  pub cancel_room : Weighs i Retire h (gateway (cell xs)) → 0 ≡ verdict (tests (weighed_tests n i h t p (gateway (cell xs)))) → 0 + told_rows t ≤ places (length out)
  cancel_room w = changing_room (cancelling n i 0 Requested) xs out b h w t tells p room

  pub can_cancel : Weighs i Retire h (gateway (cell xs)) → 0 ≡ verdict (tests (weighed_tests n i h t p (gateway (cell xs)))) → CanChange n i Retire take_off (gateway (cell xs))
  can_cancel w = can_change (cancelling n i 0 Requested) xs out b h w t tells p room

  module _ (z : ℤ) (q l c : ℕ) (r : Repriced z l c) (w : Weighs i (Reprice c l) h (gateway (cell xs))) where
    pub modified_refused : (x : Refusal) → refusal_code x ≡ verdict (tests (weighed_tests n i h t p (gateway (cell xs)))) → Gives (call (gateway (cell xs)) (deliver_event n (Modified i z q l) (places (length out)))) (Err x) xs xs out out
    modified_refused = changing_refused (modifying n i z q l c r) xs out b h w t tells p room

    pub can_modify : 0 ≡ verdict (tests (weighed_tests n i h t p (gateway (cell xs)))) → CanChange n i (Reprice c l) (modified (int c) l) (gateway (cell xs))
    can_modify = can_change (modifying n i z q l c r) xs out b h w t tells p room

    pub modify_room : 0 ≡ verdict (tests (weighed_tests n i h t p (gateway (cell xs)))) → 0 + told_rows t ≤ places (length out)
    modify_room = changing_room (modifying n i z q l c r) xs out b h w t tells p room

    pub modified_done : {ys zs end : List ℕ} (m : ℕ) (y : ℤ) → y ≡ z → 0 ≡ verdict (tests (weighed_tests n i h t p (gateway (cell xs)))) → m ≡ told_rows t → Becomes ys (in_book n i (Reprice c l) (modified (int c) l) (gateway (cell xs))) →
        Sends 0 (told_mail n i (Kind.Modified y q l) t) (λ x. x) ys zs out end →
        Gives (call (gateway (cell xs)) (deliver_event n (Modified i z q l) (places (length out)))) (Ok m) xs zs out end
    modified_done {ys} {zs} {end} m y y_is e m_is d u =
        changing_done (modifying n i z q l c r) xs out b h w t tells p room e m m_is d (subst (λ (k : ℤ). Sends 0 (told_mail n i (Kind.Modified k q l) t) (λ x. x) ys zs out end) y_is u)

-- ---- applying

-- what happens to a live order leaves it where it rests
pub still_rests : {xs ys : List ℕ} (i : ℕ) (x : Move) (at : Option ℕ) → InPlace xs ys (moved (change_of i x) (gateway (cell xs))) →
    Sees C.order_resting resting D.resting_number (cell xs) i at → Sees C.order_resting resting D.resting_number (cell ys) i at
still_rests i x at a = seen_resting a i at refl

module _ (xs : List ℕ) {ys : List ℕ} (n i : ℕ) (x : Move) (f : D.Resting → Depth → Depth) (can : CanChange n i x f (gateway (cell xs))) (a : InPlace xs ys (moved (change_of i x) (gateway (cell xs)))) where
  pub still_roomy : Roomy (where_resting i f (depth (cell ys)))
  still_roomy = subst (λ (d : Depth). Roomy (where_resting i f d)) (sym (ap (λ (g : Gateway). g.rest.depth) a.becomes.gateway_is)) can.room

  module _ {zs : List ℕ} (d : InPlace ys zs (with_depth (where_resting i f) (gateway (cell ys)))) where
    pub still_flying : in_flight n (gateway (cell zs)).core ≡ true
    still_flying = ap (λ (g : Gateway). in_flight n g.core) (d.becomes.gateway_is ∙ ap (with_depth (where_resting i f)) a.becomes.gateway_is) ∙ can.flying

    pub in_book_becomes : {us : List ℕ} → Becomes us (landed n (gateway (cell zs))) → Becomes us (in_book n i x f (gateway (cell xs)))
    in_book_becomes u = then_becomes (landed n) (then_becomes (with_depth (where_resting i f)) a.becomes d.becomes) u

-- the word of a price
pub repriced : (z : ℤ) (v w : ℕ) → w < modulus → int w ≡ z → v < modulus → Repriced z v w
repriced z v w l e f = record { is = e; price_fits = word_fits w z l e; leaves_fit = f }

-- a price that was read back from its bits
pub repriced_as : {y z : ℤ} {v w : ℕ} → y ≡ z → Repriced y v w → Repriced z v w
repriced_as {v = v} {w = w} e r = subst (λ (k : ℤ). Repriced k v w) e r

-- ---- the judge

module _ (xs : List ℕ) (n i : ℕ) (room k v : ℕ) (a w : Bool) where
  pub changing_judged : (f d : Bool) → f ≡ in_flight n (gateway (cell xs)).core → d ≡ touched_few i (depth (cell xs)) →
      v ≡ verdict (tests (record { flying = f; below = true; numbers = leb i n; agrees = true; holds = a; levels = true; depth = d; trades = true; notices = w; room = leb k room })) →
      v ≡ verdict (tests (changed_tests n i a w k room (gateway (cell xs))))
  changing_judged f d f_is d_is e = rw (f_is, d_is) at e

  pub by_weight : (h : Shift) (t : Told) → a ≡ shift_fits h (ledger (cell xs)) → w ≡ leb (h.notices + word (cell xs) C.notice_rows) most_notices → k ≡ told_rows t →
      v ≡ verdict (tests (changed_tests n i a w k room (gateway (cell xs)))) → v ≡ verdict (tests (weighed_tests n i h t room (gateway (cell xs))))
  by_weight h t a_is w_is k_is e = rw (a_is, few_is xs h w w_is, k_is) at e

pub ruleset changing = (cancelled_refused, cancelled_done, can_cancel, modified_refused, can_modify, modified_done, still_rests, still_roomy, still_flying, in_book_becomes, changing_judged, weighed, noticed_room, arith)
