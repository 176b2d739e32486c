-- The tests of a trade are the definitions'. Assumes nothing.
use mathlib.Core.Path.{◌≡◌, refl, sym, ap, ap₂, ◌∙◌}
use mathlib.Core.Bool.{Bool, true, false, not, ◌&&◌, false≢true}
use mathlib.Core.Logic.{⊎_elim}
use mathlib.Core.List.{List, [], ◌∷◌, ◌++◌}
use Prim.Native.Nat.{ℕ, ◌+◌, ◌≤◌, ◌<◌}
use native.Mathlib.Omega.{arith}
use borrow.Author.Tests.{eq-eqb, ne_eqb, lt-ltb, le-ltb, le-leb, lt-leb}
use lib.Dec.{eqb, ltb, leb}
use lib.ListN.{length, length-append}
use Rattle.le.proofs.Laws.{lt_or_le}
use Rattle.orderbook.specs.Types.{opposite_of}
use Rattle.words.specs.Words.{int}
use Rattle.gateway.specs.Limits.{most_trades, most_notices}
use Rattle.gateway.specs.Ledger.{mark_by, changes, step}
use Rattle.gateway.specs.Core.{names_below, numbers_agree, in_flight}
use Rattle.gateway.specs.Depth.{Depth, apply, depth_agrees, shows}
use Rattle.gateway.specs.Deliver.{reports, tick_of, notices_of}
use Rattle.gateway.specs.Invariant.{GatewayOk}
use Rattle.gateway.specs.Calls.{Gateway}
use Rattle.store.specs.Cells as C
use Rattle.store.specs.View.{Store, word, side, depth, gateway}
use Rattle.store.proofs.Listed.{listed_length}
use Rattle.outcome.specs.Answers.{verdict}
use Rattle.reporting.specs.declared.Told.{Told}
use Rattle.reporting.specs.Reporting.{told_mail, told_rows, Tells}
use Rattle.reporting.proofs.Laws.{told_length}
use Rattle.delivery.specs.Delivery.{tests, Judges}
use Rattle.holds.specs.declared.Shift.{Shift}
use Rattle.holds.specs.declared.Move.{Move}
use Rattle.holds.specs.Holds.{change_of, Weighs, pair_fits}
use Rattle.holds.proofs.Laws as Holds
use Rattle.holds.proofs.Laws.{weighs_few, trade_noticed}
use Rattle.holds.proofs.Applying.{notices_count}
use Rattle.shows.proofs.Judged as Shows
use Rattle.shows.specs.Shows.{both_few}
use Rattle.trades.specs.declared.Deal.{Deal}
use Rattle.trades.specs.declared.Party.{Party}
use Rattle.trades.specs.Trades.{event_of, taker_fill, maker_fill, Stands, numbers, both_show, tick_fits, few_notices, trade_tests, fill_kind, deal_mail}

-- ---- each test

module _ (n taker maker : ℕ) where
  pub one_order : taker ≡ maker → false ≡ numbers n taker maker
  one_order e = sym (ap (λ (z : Bool). leb taker n && (leb maker n && not z)) (eq-eqb taker maker e) ∙ go (leb taker n) (leb maker n))
    where
      go : (x y : Bool) → x && (y && false) ≡ false
      go true true = refl
      go true false = refl
      go false y = refl

  pub two_orders : (taker ≡ maker → ⊥) → taker ≤ n → leb maker n ≡ numbers n taker maker
  two_orders ne l = sym (ap₂ (λ (x z : Bool). x && (leb maker n && not z)) (le-leb taker n l) (ne_eqb taker maker ne) ∙ go (leb maker n))
    where
      go : (y : Bool) → y && true ≡ y
      go true = refl
      go false = refl

  pub later_taker : n < taker → false ≡ numbers n taker maker
  later_taker l = sym (ap (λ (x : Bool). x && (leb maker n && not (eqb taker maker))) (lt-leb taker n l))

  pub differ : numbers n taker maker ≡ true → taker ≡ maker → ⊥
  differ h e = false≢true (one_order e ∙ h)

module _ (d : Deal) (x : Depth) (r : Bool) (r_is : r ≡ shows d.maker d.qty x.resting) where
  pub shows_too : r ≡ true → (t : Bool) → t ≡ shows d.taker d.qty x.resting → t ≡ both_show d x
  shows_too e t t_is = ap₂ (λ u v. u && v) (sym e ∙ r_is) t_is

  pub shows_less : r ≡ false → false ≡ both_show d x
  shows_less e = ap (λ u. u && shows d.taker d.qty x.resting) (sym e ∙ r_is)

pub trades_count : (s : Store) → length (gateway s).rest.trades ≡ word s C.trade_rows
trades_count s = listed_length _ (word s C.trade_rows)

pub room_is : (s : Store) (k : ℕ) → k ≡ word s C.trade_rows → ltb k most_trades ≡ tick_fits (gateway s)
room_is s k e = ap (λ j. ltb j most_trades) (e ∙ sym (trades_count s))

pub notices_fit : (s : Store) (a b : Shift) (r : Bool) → r ≡ leb (a.notices + b.notices + word s C.notice_rows) most_notices → r ≡ few_notices a b (gateway s)
notices_fit s a b r e = e ∙ ap (λ k. leb (a.notices + b.notices + k) most_notices) (sym (notices_count s))

-- ---- what is asked of the parties

module _ {i : ℕ} {x : Move} {p : Party} {xs : List ℕ} (s : Stands i x p xs) where
  pub party_few : p.shift.notices ≤ 2
  party_few = weighs_few s.weighs

-- ---- the verdict

pub judge_is : (s : Store) (n : ℕ) (d : Deal) (a b : Party) (room : ℕ) (fly num agr hol dep trd ntc : Bool) (i j r : ℕ) → fly ≡ in_flight n (gateway s).core → num ≡ numbers n d.taker d.maker →
    agr ≡ both_show d (depth s) → hol ≡ pair_fits a.shift b.shift (gateway s).core.ledger → dep ≡ both_few d.maker d.taker (depth s) → trd ≡ tick_fits (gateway s) →
    ntc ≡ few_notices a.shift b.shift (gateway s) → i ≡ told_rows a.told → j ≡ told_rows b.told →
    r ≡ verdict (tests (record { flying = fly; below = true; numbers = num; agrees = agr; holds = hol; levels = true; depth = dep; trades = trd; notices = ntc; room = leb (i + j) room })) →
    r ≡ verdict (tests (trade_tests n d a b room (gateway s)))
judge_is s n d a b room fly num agr hol dep trd ntc i j r p1 p2 p3 p4 p5 p6 p7 p8 p9 e =
    e ∙ (λ k. verdict (tests (record {
      flying = p1 k;
      below = true;
      numbers = p2 k;
      agrees = p3 k;
      holds = p4 k;
      levels = true;
      depth = p5 k;
      trades = p6 k;
      notices = p7 k;
      room = leb (p8 k + p9 k) room;
    })))

-- ---- the definitions' tests

one_more : (k : ℕ) → ltb k most_trades ≡ leb (k + 1) most_trades
one_more k = ⊎_elim (λ (l : k < most_trades). lt-ltb k most_trades l ∙ sym (le-leb (k + 1) most_trades (omega arith))) (λ l. le-ltb k most_trades l ∙ sym (lt-leb (k + 1) most_trades (omega arith))) (lt_or_le k most_trades)

pub mail_is : (n : ℕ) (d : Deal) (a b : Told) (g : Gateway) → Tells d.taker a g → Tells d.maker b g → deal_mail n d a b ≡ reports n (event_of d) g.core g.rest
unfolding reports
mail_is n d a b g t u =
    ap₂ ◌++◌ (t.mail n (fill_kind d (side d.side) d.taker_leaves)) (u.mail n (fill_kind d (opposite_of (side d.side)) d.maker_leaves))

pub mail_count : (n : ℕ) (d : Deal) (a b : Told) → told_rows a + told_rows b ≡ length (deal_mail n d a b)
mail_count n d a b =
    let ms = told_mail n d.taker (fill_kind d (side d.side) d.taker_leaves) a in
    let ns = told_mail n d.maker (fill_kind d (opposite_of (side d.side)) d.maker_leaves) b in
    ap₂ ◌+◌ (told_length n d.taker (fill_kind d (side d.side) d.taker_leaves) a) (told_length n d.maker (fill_kind d (opposite_of (side d.side)) d.maker_leaves) b) ∙ sym (length-append ms ns)

module _ (g : Gateway) (ok : GatewayOk g) (n : ℕ) (d : Deal) (a b : Party) (w : Weighs d.taker (taker_fill d) a.shift g) (v : Weighs d.maker (maker_fill d) b.shift g)
    (t : Tells d.taker a.told g) (u : Tells d.maker b.told g) where
  noticed_is : numbers n d.taker d.maker ≡ true →
      leb (a.shift.notices + b.shift.notices + length g.rest.notices) most_notices ≡ leb (length (g.rest.notices ++ notices_of (changes n (event_of d)) g.core.ledger)) most_notices
  unfolding changes
  noticed_is h =
      let ns = notices_of (mark_by d.taker d.maker (int d.price) ∷ change_of d.taker (taker_fill d) ∷ change_of d.maker (maker_fill d) ∷ []) g.core.ledger in
      let c = trade_noticed w v (differ n d.taker d.maker h) d.taker d.maker (int d.price) in
      let e : a.shift.notices + b.shift.notices + length g.rest.notices ≡ length (g.rest.notices ++ ns) = omega (arith, c, length-append g.rest.notices ns) in
      ap (λ k. leb k most_notices) e

  pub trade_judges : (room : ℕ) → Judges n (event_of d) room g (trade_tests n d a b room g)
  unfolding names_below numbers_agree depth_agrees changes step apply tick_of
  trade_judges room =
      let o = ok.rest_is.feed in
      record {
        flying_is = refl;
        below_is = refl;
        numbers_is = λ _. refl;
        agrees_is = refl;
        holds_is = λ h. Holds.trade_fits w v (differ n d.taker d.maker h) d.taker d.maker (int d.price) ok;
        levels_is = λ _. sym (Shows.trade_fits g.rest.depth o d.taker d.maker d.qty d.taker_leaves d.maker_leaves);
        depth_is = λ h. sym (Shows.trade_few g.rest.depth o d.taker d.maker d.qty d.taker_leaves d.maker_leaves (differ n d.taker d.maker h));
        trades_is = one_more (length g.rest.trades) ∙ ap (λ k. leb k most_trades) (sym (length-append g.rest.trades (_ ∷ [])));
        notices_is = λ h. noticed_is h;
        room_is = λ _. ap (λ k. leb k room) (mail_count n d a.told b.told ∙ ap length (mail_is n d a.told b.told g t u));
      }

pub ruleset judging = (one_order, two_orders, later_taker, shows_too, shows_less, room_is, notices_fit, party_few, judge_is, arith)
