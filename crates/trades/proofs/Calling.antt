-- The call: from the verdict, what was applied and what was sent. Assumes nothing.
use Rattle.std.specs.Prelude.{Ok, Err, Result}
use mathlib.Core.Path.{◌≡◌, refl, sym, ap, ap₂, subst, ◌∙◌}
use mathlib.Core.Bool.{Bool, true, ◌&&◌, and-eq-true_iff}
use mathlib.Core.List.{List, ◌++◌}
use Prim.Native.Nat.{ℕ, ◌+◌, ◌≤◌, ◌<◌}
use native.Mathlib.Omega.{arith}
use borrow.Author.Tests.{le-leb, leb-true, ltb-true}
use lib.IntN.{ℤ, pos, negsuc}
use lib.Signed.{mag}
use lib.ListN.{length}
use mir.Syntax.{w64}
use mir.Val.{of_z, to_z}
use Rattle.orderbook.specs.Types.{opposite_of}
use Rattle.orderbook.specs.declared.Side.{Side}
use Rattle.orderbook.specs.declared.Event.{Event}
use Rattle.orderbook.specs.declared.Event.TheVariants.{Trade}
use Rattle.protocol.specs.Codes.{side_code}
use Rattle.protocol.specs.declared.ReportKind.{ReportKind}
use Rattle.words.specs.Words.{int, half, modulus, place_of}
use Rattle.words.proofs.Int.{read}
use Rattle.gateway.specs.Limits.{most_trades, most_notices, most_changed}
use Rattle.gateway.specs.Ledger.{fits, number_of}
use Rattle.gateway.specs.Core.{Pass}
use Rattle.gateway.specs.Depth.{shows, resting_number}
use Rattle.gateway.specs.Fits.{EventFits}
use Rattle.gateway.specs.Calls.{Gateway, call, deliver_event}
use Rattle.gateway.proofs.Depths.{few_counts, changed_decides}
use Rattle.store.specs.Cells as C
use Rattle.store.specs.Layout.{cell}
use Rattle.store.specs.View.{side, order, resting, gateway}
use Rattle.pending.proofs.Commands.{side_back}
use Rattle.orders.specs.declared.Places.{Places}
use Rattle.orders.specs.Orders.{Sees}
use Rattle.sound.specs.Sound.{Becomes}
use Rattle.mailbox.specs.Mailbox.{places}
use Rattle.marketdata.specs.Marketdata.{Roomy}
use Rattle.outcome.specs.declared.Refusal.{Refusal}
use Rattle.outcome.specs.Refusals.{refusal_code}
use Rattle.outcome.specs.Between.{Between}
use Rattle.outcome.specs.Answers.{verdict, Gives}
use Rattle.outcome.specs.Parts.{Sends}
use Rattle.outcome.proofs.Walk.{sends_more}
use Rattle.reporting.specs.declared.Told.{Told}
use Rattle.reporting.specs.Reporting.{told_mail, told_rows, Tells}
use Rattle.reporting.proofs.Laws.{told_length}
use Rattle.delivery.specs.Delivery.{tests, call_tests}
use Rattle.delivery.proofs.Calls.{judged_is, passes, deliver_refused, deliver_done}
use Rattle.holds.specs.declared.Move.{Move}
use Rattle.holds.specs.declared.Shift.{Shift}
use Rattle.holds.specs.Holds.{Weighs}
use Rattle.holds.proofs.Laws.{two_noticed}
use Rattle.shows.proofs.Judged as Shows
use Rattle.trades.specs.declared.Deal.{Deal}
use Rattle.trades.specs.declared.Party.{Party}
use Rattle.trades.specs.Trades.{event_of, Says, taker_fill, maker_fill, Seen, Weighed, Stands, trade_tests, in_depth, dealt, CanDeal, fill_kind, deal_mail, Reports}
use Rattle.trades.proofs.Judging.{differ, mail_is, mail_count, trade_judges}
use Rattle.trades.proofs.Applying.{dealt_after}

-- ---- what a trade says

price_fits : (p : ℤ) → mag p < half → fits p ≡ true
unfolding fits place_of
price_fits (pos n) h = rw (le-leb n 9223372036854775807 (omega arith))
price_fits (negsuc n) h = rw (le-leb n 9223372036854775807 (omega arith))

pub says_is : (id taker maker : ℕ) (z : Side) (p : ℤ) (q tl ml c w : ℕ) → c ≡ side_code z → int w ≡ p → mag p < half → tl < modulus → ml < modulus →
    Says (Trade id taker maker z p q tl ml) (record { id = id; taker = taker; maker = maker; side = c; price = w; qty = q; taker_leaves = tl; maker_leaves = ml })
says_is id taker maker z p q tl ml c w c_is w_is f h k =
    record { is = ap₂ (λ (y : Side) (x : ℤ). Trade id taker maker y x q tl ml) (ap side c_is ∙ side_back z) w_is; fits = (subst (λ (x : ℤ). fits x ≡ true) (sym w_is) (price_fits p f), (h, k)) }

-- ---- the reports

module _ (xs out : List ℕ) (n : ℕ) (d : Deal) (a b : Told) (z o : Side) (k l : ReportKind) (z_is : z ≡ side d.side) (o_is : o ≡ opposite_of z) (k_is : k ≡ fill_kind d z d.taker_leaves) (l_is : l ≡ fill_kind d o d.maker_leaves) where
  pub both_told : {ys zs mid end : List ℕ} (i j : ℕ) → i ≡ told_rows a → j ≡ told_rows b → Sends 0 (told_mail n d.taker k a) (λ r. r) xs ys out mid → Sends i (told_mail n d.maker l b) (λ r. r) ys zs mid end →
      Reports n d a b (i + j) xs zs out end
  both_told {ys} {zs} {mid} {end} i j i_is j_is p q =
      record {
        count_is = ap₂ ◌+◌ i_is j_is;
        sends = subst (λ (ms : List _). Sends 0 ms (λ r. r) xs zs out end) mails
            (sends_more xs out 0 i (told_mail n d.taker k a) (told_mail n d.maker l b) (λ r. r) p (let e : i ≡ 0 + length (told_mail n d.taker k a) = omega (arith, told_length n d.taker k a) in e) q);
      }
    where
      mails : told_mail n d.taker k a ++ told_mail n d.maker l b ≡ deal_mail n d a b
      mails =
          ap₂ (λ (x y : ReportKind). told_mail n d.taker x a ++ told_mail n d.maker y b) (k_is ∙ ap (λ (y : Side). fill_kind d y d.taker_leaves) z_is)
          (l_is ∙ ap (λ (y : Side). fill_kind d y d.maker_leaves) (o_is ∙ ap opposite_of z_is))

-- ---- what is found, step by step

pub seen : {i : ℕ} {p : Places} {xs : List ℕ} → Sees C.order_live order number_of (cell xs) i p.live → Sees C.order_resting resting resting_number (cell xs) i p.resting → Seen i p xs
seen a b = record { lives = a; rests = b }

pub weighed : {i : ℕ} {x : Move} {p : Places} {s : Shift} {xs : List ℕ} → Seen i p xs → Weighs i x s (gateway (cell xs)) → Weighed i x p s xs
weighed a b = record { seen = a; weighs = b }

pub stands : {i : ℕ} {x : Move} {p : Places} {s : Shift} {t : Told} {xs : List ℕ} → Weighed i x p s xs → Tells i t (gateway (cell xs)) →
    Stands i x (record { live = p.live; resting = p.resting; shift = s; told = t }) xs
stands w t = record { lives = w.seen.lives; rests = w.seen.rests; weighs = w.weighs; tells = t }

-- ---- the call

module _ (xs out : List ℕ) (n : ℕ) (d : Deal) (b : Between xs) (f : EventFits (event_of d)) (t m : Party) (ts : Stands d.taker (taker_fill d) t xs) (ms : Stands d.maker (maker_fill d) m xs) (p : ℕ)
    (room : p ≡ places (length out)) where
  abbrev g : Gateway
  g = gateway (cell xs)

  whole : (v : ℕ) → v ≡ verdict (tests (trade_tests n d t m p (gateway (cell xs)))) → v ≡ verdict (call_tests n (event_of d) (places (length out)) (gateway (cell xs)))
  whole v v_is =
      v_is ∙ ap (λ r. verdict (tests (trade_tests n d t m r g))) room
      ∙ judged_is n (event_of d) (places (length out)) g (trade_tests n d t m (places (length out)) g)
      (trade_judges g b.ok n d t m ts.weighs ms.weighs ts.tells ms.tells (places (length out)))

  pub trade_refused : (x : Refusal) → refusal_code x ≡ verdict (tests (trade_tests n d t m p (gateway (cell xs)))) → Gives (call (gateway (cell xs)) (deliver_event n (event_of d) (places (length out)))) (Err x) xs xs out out
  trade_refused x e = deliver_refused xs out n (event_of d) f b x (whole (refusal_code x) e)

  module _ (z : 0 ≡ verdict (tests (trade_tests n d t m p (gateway (cell xs))))) where
    passed : Pass (tests (trade_tests n d t m p g))
    passed = passes (tests (trade_tests n d t m p g)) refl z

    two : d.taker ≡ d.maker → ⊥
    two = differ n d.taker d.maker passed.1.1.0

    pub can_deal : CanDeal n d (gateway (cell xs))
    can_deal =
        let s = (and-eq-true_iff (shows d.maker d.qty g.rest.depth.resting) (shows d.taker d.qty g.rest.depth.resting)).0 passed.1.1.1.0 in
        record {
          flying = passed.0;
          noticed = record { few = omega (arith, ts.weighs.noticed, two_noticed ts.weighs ms.weighs two, leb-true (t.shift.notices + m.shift.notices + length g.rest.notices) most_notices passed.1.1.1.1.1.1.1.1.0) };
          in_book = record { two = two; taker_shows = s.1; maker_shows = s.0; room = roomy };
          room = ltb-true _ most_trades passed.1.1.1.1.1.1.1.0;
        }
      where
        roomy : Roomy (in_depth d g.rest.depth)
        roomy =
            let e = Shows.trade_few g.rest.depth b.ok.rest_is.feed d.taker d.maker d.qty d.taker_leaves d.maker_leaves two ∙ passed.1.1.1.1.1.1.0 in
            leb-true _ most_changed (sym (changed_decides (in_depth d g.rest.depth) (few_counts (in_depth d g.rest.depth) e)) ∙ e)

    pub mail_room : told_rows t.told + told_rows m.told ≤ places (length out)
    mail_room = omega (arith, room, leb-true (told_rows t.told + told_rows m.told) p passed.1.1.1.1.1.1.1.1.1.0)

    pub trade_done : {ys zs end : List ℕ} (both : Bool) (k : ℕ) → both ≡ t.shift.funded && m.shift.funded → Becomes ys (dealt n d both (gateway (cell xs))) → Reports n d t.told m.told k ys zs out end →
        Gives (call (gateway (cell xs)) (deliver_event n (event_of d) (places (length out)))) (Ok k) xs zs out end
    trade_done {ys} both k both_is s r =
        deliver_done xs out n (event_of d) f b (whole 0 z) (deal_mail n d t.told m.told) (mail_is n d t.told m.told g ts.tells ms.tells) k
        (r.count_is ∙ mail_count n d t.told m.told)
        (subst (Becomes ys) (dealt_after n d both g (both_is ∙ ap₂ ◌&&◌ (sym ts.weighs.paper_is) (sym ms.weighs.paper_is))) s) r.sends

-- the event as it came: a price that is passed on is read back from its bits
pub as_said : (xs out : List ℕ) {ys end : List ℕ} (n id taker maker : ℕ) (z : Side) (p : ℤ) (q tl ml : ℕ) (d : Deal) (r : Result ℕ Refusal) → mag p < half → Says (Trade id taker maker z (to_z w64 (of_z w64 p)) q tl ml) d →
    Gives (call (gateway (cell xs)) (deliver_event n (event_of d) (places (length out)))) r xs ys out end →
    Gives (call (gateway (cell xs)) (deliver_event n (Trade id taker maker z p q tl ml) (places (length out)))) r xs ys out end
as_said xs out {ys} {end} n id taker maker z p q tl ml d r h s =
    subst (λ (e : Event). Gives (call (gateway (cell xs)) (deliver_event n e (places (length out)))) r xs ys out end)
    (s.is ∙ ap (λ (y : ℤ). Trade id taker maker z y q tl ml) (read {x = p} h))

pub ruleset calling = (both_told, seen, weighed, stands, trade_refused, arith)
