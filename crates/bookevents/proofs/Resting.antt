-- An order comes to rest. Assumes nothing.
use Rattle.std.specs.Prelude.{Option, Some, None, is_some, Ok, Err}
use mathlib.Core.Path.{◌≡◌, refl, sym, ap, ap₂, subst, ◌∙◌}
use mathlib.Core.Bool.{Bool, true, not, false≢true}
use mathlib.Core.List.{List, [], ◌∷◌, append-nil}
use Prim.Native.Nat.{ℕ, ◌+◌, ◌≤◌, ◌<◌}
use native.Mathlib.Omega.{arith}
use lib.Dec.{leb}
use lib.IntN.{ℤ}
use lib.ListN.{length}
use Rattle.orderbook.specs.declared.Side.{Side}
use Rattle.orderbook.specs.declared.Event.{Event}
use Rattle.orderbook.specs.declared.Event.TheVariants.{Rested}
use Rattle.protocol.specs.declared.ReportKind.TheVariants as Kind
use Rattle.words.specs.Words.{int}
use Rattle.gateway.specs.Ledger.{changes, step}
use Rattle.gateway.specs.Core.{Core, names_below, numbers_agree, in_flight}
use Rattle.gateway.specs.Depth.{Depth, apply, depth_agrees, find_resting, add, levels_fit, depth_few}
use Rattle.gateway.specs.Depth as D
use Rattle.gateway.specs.Rest.{Rest}
use Rattle.gateway.specs.Deliver.{tell_owner, reports, tick_of, change_notices}
use Rattle.gateway.specs.Invariant.{GatewayOk}
use Rattle.gateway.specs.Calls.{Gateway, call, deliver_event}
use Rattle.store.specs.Layout.{cell}
use Rattle.store.specs.View.{side, word, ledger, depth, gateway}
use Rattle.sound.specs.Sound.{State, Becomes, InPlace}
use Rattle.mailbox.specs.Mailbox.{places}
use Rattle.marketdata.specs.Marketdata.{with_depth, CanAdd, Judged}
use Rattle.outcome.specs.declared.Refusal.{Refusal}
use Rattle.outcome.specs.Refusals.{refusal_code}
use Rattle.outcome.specs.Between.{Between}
use Rattle.outcome.specs.Answers.{verdict, Gives}
use Rattle.outcome.specs.Parts.{Sends}
use Rattle.outcome.proofs.Laws.{then_becomes}
use Rattle.reporting.specs.declared.Told.{Told}
use Rattle.reporting.specs.Reporting.{told_mail, told_rows, Tells}
use Rattle.reporting.proofs.Laws.{told_length, rows_are}
use Rattle.delivery.specs.Delivery.{tests, call_tests, Judges, landed, after}
use Rattle.delivery.proofs.Calls.{judged_is, deliver_refused, deliver_done, trades_few, all_pass, told_room}
use Rattle.holds.specs.declared.Move.{Move}
use Rattle.holds.specs.declared.Move.TheVariants.{Leaves}
use Rattle.holds.specs.declared.Shift.{Shift}
use Rattle.holds.specs.Holds.{change_of, moved, NewHold, Weighs, shift_fits}
use Rattle.holds.proofs.Laws.{left_live, one_fits, notices_come, few_noticed, few_is, weighed, noticed_room}
use Rattle.gateway.specs.Limits.{most_notices}
use Rattle.bookevents.specs.BookEvents.{rested_tests, joined, CanJoin, Stands}
use borrow.Author.Tests.{leb-true}
use Rattle.protocol.specs.Codes.{side_code}
use Rattle.orders.specs.declared.Resting as Words
use Rattle.orders.specs.Orders.{resting_of}
use Rattle.store.specs.Cells as C
use Rattle.pending.proofs.Commands.{side_back}
use Rattle.gateway.proofs.Invariant.{last_stays}
use Rattle.delivery.proofs.Runs.{high}
use Rattle.words.specs.Words.{modulus}

-- the order of these fields
abbrev its : ℕ → Side → ℤ → ℕ → ℕ → D.Resting
its i z p q v = record { number = i; side = z; price = p; visible = v; leaves = q }

module _ (n i : ℕ) (z : Side) (p : ℤ) (q v : ℕ) (g : Gateway) where
  abbrev e : Event
  e = Rested i z p q v

  rested_judges : GatewayOk g → (h : Shift) → Weighs i (Leaves q) h g → (t : Told) → Tells i t g → (room : ℕ) → Judges n e room g (rested_tests n (its i z p q v) h t room g)
  unfolding names_below numbers_agree depth_agrees changes step apply tick_of reports
  rested_judges ok h w t tells room =
      record {
        flying_is = refl;
        below_is = refl;
        numbers_is = λ _. refl;
        agrees_is = refl;
        holds_is = λ _. one_fits w ok;
        levels_is = λ _. refl;
        depth_is = λ _. refl;
        trades_is = trades_few g ok;
        notices_is = λ _. notices_come g w;
        room_is = λ _. rows_are n i room (Kind.Rested z p q v) t g tells;
      }

  rested_after : joined n (Leaves q) (its i z p q v) g ≡ after n e g
  unfolding changes step apply tick_of
  rested_after = rw (append-nil g.rest.trades, append-nil (change_notices (change_of i (Leaves q)) g.core.ledger)) refl

  rested_told : (c : Core) (r : Rest) → tell_owner n i (Kind.Rested z p q v) c r ≡ reports n e c r
  unfolding reports
  rested_told c r = refl

module _ (xs out : List ℕ) (n i : ℕ) (z : Side) (y : ℤ) (q v : ℕ) (o : Words.Resting) (o_is : Stands z y q v o) (b : Between xs) (h : Shift) (w : Weighs i (Leaves q) h (gateway (cell xs))) (t : Told)
    (tells : Tells i t (gateway (cell xs))) (p : ℕ) (room : p ≡ places (length out)) where
  whole : (c : ℕ) → c ≡ verdict (tests (rested_tests n (resting_of i o) h t p (gateway (cell xs)))) → c ≡ verdict (call_tests n (Rested i z y q v) (places (length out)) (gateway (cell xs)))
  whole c c_is =
      c_is ∙ ap₂ (λ (r : ℕ) (x : D.Resting). verdict (tests (rested_tests n x h t r (gateway (cell xs))))) room (o_is.is i)
      ∙ judged_is n (Rested i z y q v) (places (length out)) (gateway (cell xs)) (rested_tests n (its i z y q v) h t (places (length out)) (gateway (cell xs)))
      (rested_judges n i z y q v (gateway (cell xs)) b.ok h w t tells (places (length out)))

  pub rested_refused : (x : Refusal) → refusal_code x ≡ verdict (tests (rested_tests n (resting_of i o) h t p (gateway (cell xs)))) → Gives (call (gateway (cell xs)) (deliver_event n (Rested i z y q v) (places (length out)))) (Err x) xs xs out out
  rested_refused x e = deliver_refused xs out n (Rested i z y q v) o_is.qty_fits b x (whole (refusal_code x) e)

  module _ (e : 0 ≡ verdict (tests (rested_tests n (resting_of i o) h t p (gateway (cell xs))))) where
    pub can_join : CanJoin n (Leaves o.leaves) (resting_of i o) (gateway (cell xs))
    can_join =
        let a = all_pass (rested_tests n (resting_of i o) h t p (gateway (cell xs))) e in
        record {
          flying = a.0;
          number_is = leb-true i n a.1.1.0;
          noticed = rw o_is.leaves_is (few_noticed (gateway (cell xs)) w a.1.1.1.1.1.1.1.1.0);
          absent = none_there (find_resting i (depth (cell xs)).resting) a.1.1.1.0;
          judged = record { fits = a.1.1.1.1.1.0; few = a.1.1.1.1.1.1.0 };
        }
      where
        none_there : (x : Option D.Resting) → not (is_some x) ≡ true → x ≡ None
        none_there None k = refl
        none_there (Some x) k = absurd (false≢true k)

    pub join_room : 0 + told_rows t ≤ places (length out)
    join_room = told_room (rested_tests n (resting_of i o) h t p (gateway (cell xs))) (told_rows t) p (places (length out)) e refl room

    pub rested_done : {ys zs end : List ℕ} (m : ℕ) (y' : ℤ) → y' ≡ y → m ≡ told_rows t → Becomes ys (joined n (Leaves o.leaves) (resting_of i o) (gateway (cell xs))) →
        Sends 0 (told_mail n i (Kind.Rested z y' q v) t) (λ x. x) ys zs out end →
        Gives (call (gateway (cell xs)) (deliver_event n (Rested i z y q v) (places (length out)))) (Ok m) xs zs out end
    rested_done {ys} {zs} {end} m y' y_is m_is d u =
        deliver_done xs out n (Rested i z y q v) o_is.qty_fits b (whole 0 e) (told_mail n i (Kind.Rested z y q v) t)
        (tells.mail n (Kind.Rested z y q v) ∙ rested_told n i z y q v (gateway (cell xs)) (gateway (cell xs)).core (gateway (cell xs)).rest) m (m_is ∙ told_length n i (Kind.Rested z y q v) t)
        (subst (Becomes ys)
        (ap₂ (λ (l : ℕ) (x : D.Resting). joined n (Leaves l) x (gateway (cell xs))) o_is.leaves_is (o_is.is i) ∙ rested_after n i z y q v (gateway (cell xs))) d)
        (subst (λ (k : ℤ). Sends 0 (told_mail n i (Kind.Rested z k q v) t) (λ x. x) ys zs out end) y_is u)

-- ---- applying

module _ (xs : List ℕ) {ys : List ℕ} (n : ℕ) (x : Move) (o : D.Resting) (st : State xs) (can : CanJoin n x o (gateway (cell xs))) (a : InPlace xs ys (moved (change_of o.number x) (gateway (cell xs)))) where
  pub can_add : CanAdd o (cell ys)
  can_add =
      let d : depth (cell ys) ≡ depth (cell xs) = ap (λ (g : Gateway). g.rest.depth) a.becomes.gateway_is in
      let l : word (cell ys) C.last ≡ word (cell xs) C.last = ap (λ (g : Gateway). g.core.ledger.last) a.becomes.gateway_is ∙ last_stays (change_of o.number x ∷ []) (ledger (cell xs)) in
      record {
        absent = ap (λ (k : Depth). find_resting o.number k.resting) d ∙ can.absent;
        at_most_last = omega (arith, l, can.number_is, high st n can.flying);
        judged = subst (λ (k : Depth). Judged (add o k)) (sym d) can.judged;
      }

  module _ {zs : List ℕ} (d : Becomes zs (with_depth (add o) (gateway (cell ys)))) where
    pub joined_flying : in_flight n (gateway (cell zs)).core ≡ true
    joined_flying = ap (λ (g : Gateway). in_flight n g.core) (d.gateway_is ∙ ap (with_depth (add o)) a.becomes.gateway_is) ∙ can.flying

    pub joined_becomes : {us : List ℕ} → Becomes us (landed n (gateway (cell zs))) → Becomes us (joined n x o (gateway (cell xs)))
    joined_becomes u = then_becomes (landed n) (then_becomes (with_depth (add o)) a.becomes d) u

-- the words of the row
pub stands : (z : Side) (y : ℤ) (q v s p : ℕ) → s ≡ side_code z → int p ≡ y → q < modulus → Stands z y q v (record { side = s; price = p; visible = v; leaves = q })
stands z y q v s p s_is p_is f =
    record { is = λ i. ap₂ (λ (a : Side) (b : ℤ). record { number = i; side = a; price = b; visible = v; leaves = q }) (ap side s_is ∙ side_back z) p_is; leaves_is = refl; qty_fits = f }

-- what is left of the order is what it rests with
pub left_hold : {z : Side} {y : ℤ} {q v i : ℕ} {o : Words.Resting} {h : Shift} {g : Gateway} → Stands z y q v o → Weighs i (Leaves q) h g → NewHold i (Leaves o.leaves) h.new g.core.ledger
left_hold {i = i} {h = h} {g = g} s w = subst (λ (k : ℕ). NewHold i (Leaves k) h.new g.core.ledger) (sym s.leaves_is) w.holds

-- with a price that was read back from its bits
pub stands_as : {z : Side} {x y : ℤ} {q v : ℕ} {o : Words.Resting} → x ≡ y → Stands z x q v o → Stands z y q v o
stands_as {z} {q = q} {v = v} {o = o} e r = subst (λ (k : ℤ). Stands z k q v o) e r

-- ---- the judge

pub resting_judged : (xs : List ℕ) (n i : ℕ) (o : Words.Resting) (h : Shift) (t : Told) (room k v : ℕ) (f b a l d w : Bool) → f ≡ in_flight n (gateway (cell xs)).core →
    b ≡ not (is_some (find_resting i (depth (cell xs)).resting)) → a ≡ shift_fits h (ledger (cell xs)) → l ≡ levels_fit (add (resting_of i o) (depth (cell xs))).resting →
    d ≡ depth_few (add (resting_of i o) (depth (cell xs))) → w ≡ leb (h.notices + word (cell xs) C.notice_rows) most_notices → k ≡ told_rows t →
    v ≡ verdict (tests (record { flying = f; below = true; numbers = leb i n; agrees = b; holds = a; levels = l; depth = d; trades = true; notices = w; room = leb k room })) →
    v ≡ verdict (tests (rested_tests n (resting_of i o) h t room (gateway (cell xs))))
resting_judged xs n i o h t room k v f b a l d w f_is b_is a_is l_is d_is w_is k_is e = rw (f_is, b_is, a_is, l_is, d_is, few_is xs h w w_is, k_is) at e

pub ruleset resting_laws = (rested_refused, can_join, rested_done, can_add, joined_flying, joined_becomes, left_live, stands, resting_judged, weighed, noticed_room, arith)
