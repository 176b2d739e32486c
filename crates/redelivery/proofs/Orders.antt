-- One order changes, or the two of a trade. Assumes nothing.
use Rattle.std.specs.Prelude.{Option}
use mathlib.Core.Path.{◌≡◌, refl, sym, ap, ap₂, ◌∙◌}
use mathlib.Core.Bool.{Bool, true, ◌&&◌}
use mathlib.Core.List.{List}
use Prim.Native.Nat.{ℕ}
use native.Mathlib.Omega.{arith}
use lib.Dec.{leb}
use Rattle.orderbook.specs.declared.Event.{Event}
use Rattle.words.specs.Words.{int}
use Rattle.gateway.specs.Ledger.{number_of, paper, change, changes, step, event}
use Rattle.gateway.specs.Core.{system, core_step, in_flight, names_below, numbers_agree}
use Rattle.gateway.specs.Rest.{with_delivered}
use Rattle.gateway.specs.Entry.{nothing}
use Rattle.gateway.specs.Fits.{EventFits}
use Rattle.gateway.specs.Calls.{Gateway, call, replay_event}
use Rattle.store.specs.Layout.{cell}
use Rattle.store.specs.Cells as C
use Rattle.store.specs.View.{order, ledger, gateway}
use Rattle.orders.specs.Orders.{Sees}
use Rattle.sound.specs.Sound.{Becomes, InPlace}
use Rattle.live.specs.Live.{with_ledger}
use Rattle.outcome.specs.declared.Refusal.{Refusal}
use Rattle.outcome.specs.Refusals.{refusal_code}
use Rattle.outcome.specs.Between.{Between}
use Rattle.outcome.specs.Answers.{Says, verdict}
use Rattle.outcome.proofs.Laws.{then_becomes}
use Rattle.delivery.specs.Delivery.{landed}
use Rattle.holds.specs.declared.Move.{Move}
use Rattle.holds.specs.declared.Shift.{Shift}
use Rattle.holds.specs.Holds.{change_of, Weighs, shift_fits, pair_fits}
use Rattle.holds.proofs.Laws.{kept_live, one_fits, trade_fits}
use Rattle.trades.specs.declared.Deal.{Deal}
use Rattle.trades.specs.Trades.{event_of, taker_fill, maker_fill, numbers, marked}
use Rattle.trades.proofs.Judging.{differ}
use Rattle.redelivery.specs.Redelivery.{tests, trade_tests, Moves, moved, settled, dealt, Stand}
use Rattle.redelivery.proofs.Calling.{Judges, flying, numbered, event_refused, event_done}

-- ---- one

module _ (xs : List ℕ) (b : Between xs) (n i : ℕ) (x : Move) (h : Shift) (w : Weighs i x h (gateway (cell xs))) (fit : Bool) (fit_is : fit ≡ shift_fits h (ledger (cell xs))) where
  pub one_flying : 0 ≡ verdict (tests n true (leb i n) fit (gateway (cell xs))) → in_flight n (gateway (cell xs)).core ≡ true
  one_flying = flying xs b n true (leb i n) fit

  module _ (e : Event) (s : Moves n i x e) where
    one_judges : Judges n e true (leb i n) fit (gateway (cell xs))
    unfolding step
    one_judges = record { below_is = sym (s.names _); numbers_is = λ _. sym (s.numbers _); holds_is = λ _. rw s.one_change (fit_is ∙ one_fits w b.ok) }

    pub one_refused : (why : Refusal) → refusal_code why ≡ verdict (tests n true (leb i n) fit (gateway (cell xs))) → Says nothing (call (gateway (cell xs)) (replay_event n e)) (refusal_code why) xs xs
    one_refused = event_refused xs b n true (leb i n) fit e s.fits one_judges

    one_after : moved n i x (gateway (cell xs)) ≡ record { core = core_step system (event n e) (gateway (cell xs)).core; rest = with_delivered n (gateway (cell xs)).rest }
    unfolding step
    one_after = rw s.one_change refl

    pub one_done : {ys : List ℕ} → 0 ≡ verdict (tests n true (leb i n) fit (gateway (cell xs))) → Becomes ys (moved n i x (gateway (cell xs))) → Says nothing (call (gateway (cell xs)) (replay_event n e)) 0 xs ys
    one_done z d = event_done xs b n true (leb i n) fit e s.fits one_judges (moved n i x (gateway (cell xs))) z one_after d

module _ (xs : List ℕ) {ys : List ℕ} (n i : ℕ) (x : Move) (a : InPlace xs ys (with_ledger (change (change_of i x)) (gateway (cell xs)))) where
  pub changed_flying : in_flight n (gateway (cell xs)).core ≡ true → in_flight n (gateway (cell ys)).core ≡ true
  changed_flying f = ap (λ (g : Gateway). in_flight n g.core) a.becomes.gateway_is ∙ f

  pub moved_becomes : {zs : List ℕ} → Becomes zs (landed n (gateway (cell ys))) → Becomes zs (moved n i x (gateway (cell xs)))
  moved_becomes u = then_becomes (landed n) a.becomes u

-- ---- the two of a trade

pub trade_judged : (xs : List ℕ) (n : ℕ) (d : Deal) (s t : Shift) (m f : Bool) (v : ℕ) → m ≡ numbers n d.taker d.maker → f ≡ pair_fits s t (ledger (cell xs)) → v ≡ verdict (tests n true m f (gateway (cell xs))) →
    v ≡ verdict (trade_tests n d s t (gateway (cell xs)))
trade_judged xs n d s t m f v m_is f_is e = e ∙ ap₂ (λ (a c : Bool). verdict (tests n true a c (gateway (cell xs)))) m_is f_is

module _ (xs : List ℕ) {ys : List ℕ} (d : Deal) (b : InPlace xs ys (with_ledger (change (change_of d.taker (taker_fill d))) (gateway (cell xs)))) where
  pub maker_there : (at maker_at : Option ℕ) → Stand d at maker_at xs → Sees C.order_live order number_of (cell ys) d.maker maker_at
  maker_there at maker_at h = kept_live b d.maker maker_at d.taker (taker_fill d) h.two refl h.maker_lives

  pub settled_becomes : {zs : List ℕ} → InPlace ys zs (with_ledger (change (change_of d.maker (maker_fill d))) (gateway (cell ys))) → Becomes zs (settled d (gateway (cell xs)))
  settled_becomes c = then_becomes (with_ledger (change (change_of d.maker (maker_fill d)))) b.becomes c.becomes

module _ (xs : List ℕ) {ys zs : List ℕ} (n : ℕ) (d : Deal) (both : Bool) (s : Becomes ys (settled d (gateway (cell xs)))) (k : InPlace ys zs (marked both d.price (gateway (cell ys)))) where
  pub dealt_flying : in_flight n (gateway (cell xs)).core ≡ true → in_flight n (gateway (cell zs)).core ≡ true
  dealt_flying f = ap (λ (g : Gateway). in_flight n g.core) (k.becomes.gateway_is ∙ ap (marked both d.price) s.gateway_is) ∙ f

  pub dealt_becomes : {us : List ℕ} → Becomes us (landed n (gateway (cell zs))) → Becomes us (dealt n d both (gateway (cell xs)))
  dealt_becomes u = then_becomes (landed n) (then_becomes (marked both d.price) s k.becomes) u

module _ (xs : List ℕ) (b : Between xs) (n : ℕ) (d : Deal) (f : EventFits (event_of d)) (s t : Shift) (w : Weighs d.taker (taker_fill d) s (gateway (cell xs))) (u : Weighs d.maker (maker_fill d) t (gateway (cell xs))) where
  abbrev agree : Bool
  agree = numbers n d.taker d.maker

  abbrev fit : Bool
  fit = pair_fits s t (ledger (cell xs))

  trade_judges : Judges n (event_of d) true agree fit (gateway (cell xs))
  unfolding names_below numbers_agree changes step
  trade_judges = record { below_is = refl; numbers_is = λ _. refl; holds_is = λ h. trade_fits w u (differ n d.taker d.maker h) d.taker d.maker (int d.price) b.ok }

  pub trade_flying : 0 ≡ verdict (trade_tests n d s t (gateway (cell xs))) → in_flight n (gateway (cell xs)).core ≡ true
  trade_flying = flying xs b n true agree fit

  pub trade_stands : 0 ≡ verdict (trade_tests n d s t (gateway (cell xs))) → (at maker_at : Option ℕ) → Sees C.order_live order number_of (cell xs) d.taker at → Sees C.order_live order number_of (cell xs) d.maker maker_at → Stand d at maker_at xs
  trade_stands z at maker_at p q = record { two = differ n d.taker d.maker (numbered xs b n true agree fit z); taker_lives = p; maker_lives = q }

  pub trade_refused : (why : Refusal) → refusal_code why ≡ verdict (trade_tests n d s t (gateway (cell xs))) → Says nothing (call (gateway (cell xs)) (replay_event n (event_of d))) (refusal_code why) xs xs
  trade_refused = event_refused xs b n true agree fit (event_of d) f trade_judges

  -- the mark, which comes first in the definitions, changes neither orders nor wallets
  trade_after : (both : Bool) → both ≡ paper d.taker (ledger (cell xs)) && paper d.maker (ledger (cell xs)) →
      dealt n d both (gateway (cell xs)) ≡ record { core = core_step system (event n (event_of d)) (gateway (cell xs)).core; rest = with_delivered n (gateway (cell xs)).rest }
  unfolding changes change step
  trade_after both e = rw e refl

  pub trade_done : {ys : List ℕ} (both : Bool) → both ≡ s.funded && t.funded → 0 ≡ verdict (trade_tests n d s t (gateway (cell xs))) → Becomes ys (dealt n d both (gateway (cell xs))) → Says nothing (call (gateway (cell xs)) (replay_event n (event_of d))) 0 xs ys
  trade_done both both_is z k =
      event_done xs b n true agree fit (event_of d) f trade_judges (dealt n d both (gateway (cell xs))) z
      (trade_after both (both_is ∙ ap₂ ◌&&◌ (sym w.paper_is) (sym u.paper_is))) k

pub ruleset orders = (one_flying, one_refused, one_done, changed_flying, moved_becomes, trade_judged, maker_there, settled_becomes, dealt_flying, dealt_becomes, trade_flying, trade_refused, trade_done, arith)
