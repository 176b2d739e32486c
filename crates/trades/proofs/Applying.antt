-- A trade applied: both fills, the reference price, the depth, the tick and the run. Assumes nothing.
use Rattle.std.specs.Prelude.{Option}
use mathlib.Core.Path.{◌≡◌, refl, sym, ap, subst, ◌∙◌}
use mathlib.Core.Bool.{Bool, true, false, ◌&&◌}
use mathlib.Core.List.{List, append_assoc, append-nil}
use Prim.Native.Nat.{ℕ, ◌+◌, ◌≤◌, ◌<◌}
use native.Mathlib.Omega.{arith}
use lib.ListN.{length, length-append}
use Rattle.gateway.specs.Limits.{most_trades, most_notices}
use Rattle.gateway.specs.Ledger.{Change, number_of, paper, change, changes, step}
use Rattle.gateway.specs.Core.{in_flight}
use Rattle.gateway.specs.Depth.{resting_number, apply}
use Rattle.gateway.specs.Deliver.{change_notices, tick_of}
use Rattle.gateway.specs.Calls.{Gateway}
use Rattle.store.specs.Cells as C
use Rattle.store.specs.Layout.{cell}
use Rattle.store.specs.View.{word, fill, order, resting, ledger, depth, gateway, Is}
use Rattle.orders.specs.Orders.{Sees}
use Rattle.orders.proofs.Kept.{stays_same, stays_then}
use Rattle.pending.specs.Pending as Pending
use Rattle.pending.proofs.Views.{mark_view, trade_view}
use Rattle.sound.specs.Sound.{State, Becomes, InPlace}
use Rattle.sound.proofs.Kept.{becomes, in_place, seen_resting}
use Rattle.sound.proofs.Waiting.{mark_sound, trade_sound}
use Rattle.marketdata.specs.Marketdata.{with_depth, CanTrade}
use Rattle.outcome.proofs.Laws.{then_becomes}
use Rattle.delivery.specs.Delivery.{landed, after}
use Rattle.holds.specs.Holds.{change_of, moved, NewHold}
use Rattle.holds.proofs.Applying.{notices_count}
use Rattle.holds.proofs.Laws.{kept_hold_at, kept_live}
use Rattle.trades.specs.declared.Deal.{Deal}
use Rattle.trades.specs.declared.Party.{Party}
use Rattle.trades.specs.Trades.{event_of, taker_fill, maker_fill, settled, marked, ticked, in_depth, dealt, Stands, CanSettle, CanDeal}
use Rattle.trades.proofs.Judging.{trades_count}

-- ---- both fills

module _ (xs : List ℕ) (d : Deal) (new maker_new : ℕ) (h : CanSettle d new maker_new (gateway (cell xs))) where
  abbrev first : Change
  first = change_of d.taker (taker_fill d)

  abbrev second : Change
  second = change_of d.maker (maker_fill d)

  pub taker_room : length (change_notices (change_of d.taker (taker_fill d)) (ledger (cell xs))) + word (cell xs) C.notice_rows ≤ most_notices
  taker_room = omega (arith, notices_count (cell xs), h.noticed.few)

  module _ {ys : List ℕ} (b : InPlace xs ys (moved (change_of d.taker (taker_fill d)) (gateway (cell xs)))) where
    pub maker_room : length (change_notices (change_of d.maker (maker_fill d)) (ledger (cell ys))) + word (cell ys) C.notice_rows ≤ most_notices
    maker_room =
        let e = ap (λ (g : Gateway). length (change_notices second g.core.ledger)) b.becomes.gateway_is in
        let f = ap (λ (g : Gateway). length g.rest.notices) b.becomes.gateway_is in
        omega (arith, e, f, notices_count (cell ys), length-append (gateway (cell xs)).rest.notices (change_notices first (gateway (cell xs)).core.ledger), h.noticed.few)

    -- the taker's fill leaves the maker as it is
    pub maker_hold : NewHold d.maker (maker_fill d) maker_new (ledger (cell ys))
    maker_hold = kept_hold_at d.maker (maker_fill d) maker_new xs h.maker_holds d.taker (taker_fill d) h.two b.becomes

    pub maker_lives : (at : Option ℕ) → Sees C.order_live order number_of (cell xs) d.maker at → Sees C.order_live order number_of (cell ys) d.maker at
    maker_lives at = kept_live b d.maker at d.taker (taker_fill d) h.two refl

pub settled_becomes : (xs : List ℕ) {ys zs : List ℕ} (d : Deal) → InPlace xs ys (moved (change_of d.taker (taker_fill d)) (gateway (cell xs))) →
    InPlace ys zs (moved (change_of d.maker (maker_fill d)) (gateway (cell ys))) → InPlace xs zs (settled d (gateway (cell xs)))
settled_becomes xs d b c = record { becomes = then_becomes (moved (change_of d.maker (maker_fill d))) b.becomes c.becomes; stays = stays_then b.stays c.stays }

-- what was found says what both hold then
pub can_settle : {xs : List ℕ} (n : ℕ) (d : Deal) (t m : Party) → Stands d.taker (taker_fill d) t xs → Stands d.maker (maker_fill d) m xs → CanDeal n d (gateway (cell xs)) →
    CanSettle d t.shift.new m.shift.new (gateway (cell xs))
can_settle n d t m a b can = record { noticed = can.noticed; two = can.in_book.two; taker_holds = a.weighs.holds; maker_holds = b.weighs.holds }

-- ---- the reference price

module _ {xs : List ℕ} (st : State xs) (both : Bool) (p : ℕ) where
  pub mark_stays : both ≡ true → InPlace xs xs (marked both p (gateway (cell xs)))
  mark_stays e = record { becomes = record { state = st; gateway_is = sym (ap (λ (b : Bool). marked b p (gateway (cell xs))) e) }; stays = stays_same (cell xs) }

  pub mark_moves : {ys : List ℕ} → both ≡ false → Is ys (Pending.set_mark p (cell xs)) → InPlace xs ys (marked both p (gateway (cell xs)))
  unfolding fill
  mark_moves {ys} e h =
      subst (λ (b : Bool). InPlace xs ys (marked b p (gateway (cell xs)))) (sym e)
      (in_place st h (mark_sound (cell xs) st.sound p) (mark_view p (cell xs)) (record { rows_are = refl; numbers_are = λ j l. refl }))

-- ---- the tick

module _ {xs : List ℕ} (st : State xs) (n : ℕ) (d : Deal) (l : length (gateway (cell xs)).rest.trades < most_trades) where
  pub tick_room : word (cell xs) C.trade_rows < most_trades
  tick_room = omega (arith, trades_count (cell xs))

  pub tick_becomes : {ys : List ℕ} → Is ys (Pending.trade n d.id d.side d.price d.qty (cell xs)) → Becomes ys (ticked n d (gateway (cell xs)))
  tick_becomes h = becomes h (trade_sound (cell xs) st.sound n d.id d.side d.price d.qty tick_room) (trade_view n d.id d.side d.price d.qty (cell xs))

-- ---- one behind the other

module _ (xs ys zs : List ℕ) (n : ℕ) (d : Deal) (both : Bool) (can : CanDeal n d (gateway (cell xs))) (s : InPlace xs ys (settled d (gateway (cell xs)))) (k : InPlace ys zs (marked both d.price (gateway (cell ys)))) where
  so_far : gateway (cell zs) ≡ marked both d.price (settled d (gateway (cell xs)))
  so_far = k.becomes.gateway_is ∙ ap (marked both d.price) s.becomes.gateway_is

  pub still_trades : CanTrade d.taker d.maker d.qty d.taker_leaves d.maker_leaves (depth (cell zs))
  still_trades = subst (λ (g : Gateway). CanTrade d.taker d.maker d.qty d.taker_leaves d.maker_leaves g.rest.depth) (sym so_far) can.in_book

  -- both rest where they were
  pub still_rests : (n : ℕ) (at : Option ℕ) → Sees C.order_resting resting resting_number (cell xs) n at → Sees C.order_resting resting resting_number (cell zs) n at
  still_rests n at h = seen_resting k n at refl (seen_resting s n at refl h)

  module _ (us : List ℕ) (t : InPlace zs us (with_depth (in_depth d) (gateway (cell zs)))) where
    in_all : gateway (cell us) ≡ with_depth (in_depth d) (marked both d.price (settled d (gateway (cell xs))))
    in_all = t.becomes.gateway_is ∙ ap (with_depth (in_depth d)) so_far

    pub still_room : length (gateway (cell us)).rest.trades < most_trades
    still_room = subst (λ (g : Gateway). length g.rest.trades < most_trades) (sym in_all) can.room

    module _ (vs : List ℕ) (p : Becomes vs (ticked n d (gateway (cell us)))) where
      last : gateway (cell vs) ≡ ticked n d (with_depth (in_depth d) (marked both d.price (settled d (gateway (cell xs)))))
      last = p.gateway_is ∙ ap (ticked n d) in_all

      pub still_flying : in_flight n (gateway (cell vs)).core ≡ true
      still_flying = ap (λ (g : Gateway). in_flight n g.core) last ∙ can.flying

      pub dealt_becomes : {ws : List ℕ} → Becomes ws (landed n (gateway (cell vs))) → Becomes ws (dealt n d both (gateway (cell xs)))
      dealt_becomes w = record { state = w.state; gateway_is = w.gateway_is ∙ ap (landed n) last }

-- ---- it is the definitions' event: the mark, which comes first there, changes neither orders nor wallets

pub dealt_after : (n : ℕ) (d : Deal) (both : Bool) (g : Gateway) → both ≡ paper d.taker g.core.ledger && paper d.maker g.core.ledger → dealt n d both g ≡ after n (event_of d) g
unfolding changes change step apply tick_of
dealt_after n d both g e =
    let l = g.core.ledger in
    let ns = change_notices (change_of d.taker (taker_fill d)) l in
    let ms = change_notices (change_of d.maker (maker_fill d)) (change (change_of d.taker (taker_fill d)) l) in
    rw (e, append_assoc g.rest.notices ns ms, append-nil ms) refl

pub ruleset applying = (taker_room, maker_room, maker_hold, can_settle, settled_becomes, mark_stays, mark_moves, tick_room, tick_becomes, still_room, still_flying, arith)
