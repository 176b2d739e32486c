-- The market's changes: trades and changed levels, to one session and to all. Assumes nothing.
use mathlib.Core.Path.{◌≡◌, refl, sym, ap, subst, ◌∙◌}
use mathlib.Core.Bool.{Bool, true, false, cond, ◌&&◌}
use mathlib.Core.List.{List, [], ◌∷◌, map}
use Prim.Native.Nat.{ℕ, ◌+◌, ◌≤◌, ◌<◌}
use native.Mathlib.Omega.{arith}
use lib.ListN.{length, get_or, length-append, length-map}
use lib.IntN.{ℤ, pos}
use Rattle.orderbook.specs.declared.Side.{Side}
use Rattle.orderbook.specs.declared.Side.TheVariants.{Buy}
use Rattle.protocol.specs.declared.Outbound.TheVariants as Out
use Rattle.protocol.specs.declared.TradeTick.{TradeTick}
use Rattle.protocol.specs.declared.LevelUpdate.{LevelUpdate}
use Rattle.words.specs.Words.{int}
use Rattle.gateway.specs.Limits.{session_slots, most_trades, most_changed}
use Rattle.gateway.specs.Depth as D
use Rattle.gateway.specs.Rest.{Mail, send, Rest, session_at, is_open, is_subscribed}
use Rattle.gateway.specs.Entry.{update_of, level_to, changes_to}
use Rattle.gateway.specs.Calls.{Gateway}
use Rattle.store.specs.Cells as C
use Rattle.store.specs.Layout.{cell}
use Rattle.store.specs.View.{word, side, trade, changed_key, depth, gateway}
use Rattle.store.proofs.Listed.{listed_at, listed_length}
use Rattle.pending.specs.declared.Trade.{Trade}
use Rattle.pending.specs.declared.changed.Changed.{Changed}
use Rattle.pending.specs.Pending.{key, trade_words, changed_words}
use Rattle.levels.specs.declared.Row.{Row}
use Rattle.sound.specs.Sound.{State}
use Rattle.marketdata.specs.Marketdata.{IsLevel}
use Rattle.mailbox.specs.Mailbox.{places}
use Rattle.outcome.specs.Parts.{rest_of, Sends, steps, Stepped}
use Rattle.outcome.proofs.Walk.{slots, sends_none, sends_more}
use Rattle.outcome.proofs.Steps.{steps_each, each_one, steps_sessions}
use Rattle.feed.specs.Feed.{Told, trade_step, trades_to, no_trade, level_step, levels_to, changes_step, market, most_changes}
use Rattle.feed.proofs.Stamps.{sends_kept, sends_room}

-- ---- trades

pub trades_many : (xs : List ℕ) → length (rest_of xs).trades ≡ word (cell xs) C.trade_rows
trades_many xs = listed_length (λ j. trade (cell xs C.trades j)) (word (cell xs) C.trade_rows)

pub trade_small : {xs : List ℕ} → State xs → (j : ℕ) → j < length (rest_of xs).trades → j < most_trades
trade_small {xs} st j l = omega (arith, trades_many xs, st.sound.tables.ordered.bounds.trades_fit)

pub trade_sends : (xs : List ℕ) {ys : List ℕ} (out : List ℕ) {end : List ℕ} (i s j : ℕ) → j < length (rest_of xs).trades → (w : Trade) (t : TradeTick) → w ≡ trade_words (cell xs C.trades j) →
    t ≡ record { seq = w.seq; trade_id = w.trade_id; side = side w.side; price = int w.price; qty = w.qty } →
    Sends i (send s (Out.TradeTick t) ∷ []) (λ x. x) xs ys out end → Stepped (trade_step s) i j (i + 1) xs ys out end
trade_sends xs {ys} out {end} i s j l w t e f h =
    let k : trade (cell xs C.trades j) ≡ get_or (rest_of xs).trades j no_trade =
    sym (listed_at (λ k. trade (cell xs C.trades k)) (word (cell xs) C.trade_rows) j no_trade (rw (← trades_many xs) l)) in
    let q : t ≡ trade (cell xs C.trades j) = rw (f, e) refl in
    record { next_is = refl; sends = subst (λ (x : TradeTick). Sends i (send s (Out.TradeTick x) ∷ []) (λ x. x) xs ys out end) (q ∙ k) h }

pub trades_each : (xs : List ℕ) (s m : ℕ) → m ≡ word (cell xs) C.trade_rows → steps (trade_step s) (gateway (cell xs)) m ≡ trades_to s (gateway (cell xs))
trades_each xs s m e =
    let ts = (rest_of xs).trades in
    steps_each (λ t. send s (Out.TradeTick t) ∷ []) (trade_step s) (gateway (cell xs)) ts no_trade (λ j l. refl) m (e ∙ sym (trades_many xs))
    ∙ each_one (λ t. send s (Out.TradeTick t)) ts

-- ---- a level

pub update_is : (xs : List ℕ) (sd pr seq : ℕ) (l : Row) (z : Side) (p : ℤ) → IsLevel (side sd) (int pr) (depth (cell xs)) l → seq ≡ word (cell xs) C.delivered → z ≡ side sd → p ≡ int pr →
    record { seq = seq; side = z; price = p; qty = l.qty; orders = l.orders } ≡ update_of (rest_of xs).delivered (side sd) (D.level (key sd pr) (rest_of xs).depth)
update_is xs sd pr seq l z p h e f q =
    let k = q ∙ sym h.price_is in
    λ i. record { seq = e i; side = f i; price = k i; qty = h.qty_is i; orders = h.orders_is i }

-- ---- changed levels

pub changed_many : (xs : List ℕ) → length (rest_of xs).depth.changed ≡ word (cell xs) C.changed_rows
changed_many xs = listed_length (λ j. changed_key (cell xs C.changed j)) (word (cell xs) C.changed_rows)

pub changed_small : {xs : List ℕ} → State xs → (j : ℕ) → j < length (rest_of xs).depth.changed → j < most_changed
changed_small {xs} st j l = omega (arith, changed_many xs, st.sound.tables.ordered.bounds.changed_fit)

pub level_sends : (xs : List ℕ) {ys : List ℕ} (out : List ℕ) {end : List ℕ} (i s j : ℕ) → j < length (rest_of xs).depth.changed → (k : Changed) (u : LevelUpdate) → k ≡ changed_words (cell xs C.changed j) →
    u ≡ update_of (rest_of xs).delivered (side k.side) (D.level (key k.side k.price) (rest_of xs).depth) →
    Sends i (send s (Out.LevelUpdate u) ∷ []) (λ x. x) xs ys out end → Stepped (level_step s) i j (i + 1) xs ys out end
level_sends xs {ys} out {end} i s j l k u e f h =
    let p : key k.side k.price ≡ get_or (rest_of xs).depth.changed j (Buy, pos 0) =
    ap (λ (c : Changed). key c.side c.price) e
    ∙ sym (listed_at (λ n. changed_key (cell xs C.changed n)) (word (cell xs) C.changed_rows) j (Buy, pos 0) (rw (← changed_many xs) l)) in
    let q = f ∙ ap (λ (c : D.Key). update_of (rest_of xs).delivered c.0 (D.level c (rest_of xs).depth)) p in
    record { next_is = refl; sends = subst (λ (x : LevelUpdate). Sends i (send s (Out.LevelUpdate x) ∷ []) (λ x. x) xs ys out end) q h }

pub levels_each : (xs : List ℕ) (s m : ℕ) → m ≡ word (cell xs) C.changed_rows → steps (level_step s) (gateway (cell xs)) m ≡ levels_to s (gateway (cell xs))
levels_each xs s m e =
    let r = rest_of xs in
    let h : D.Key → Mail = λ k. level_to s r.delivered k.0 (D.level k r.depth) in
    steps_each (λ k. h k ∷ []) (level_step s) (gateway (cell xs)) r.depth.changed (Buy, pos 0) (λ j l. refl) m (e ∙ sym (changed_many xs))
    ∙ each_one h r.depth.changed

-- ---- one session

changes_long : (xs : List ℕ) (s : ℕ) → length (changes_to s (rest_of xs)) ≡ length (trades_to s (gateway (cell xs))) + length (levels_to s (gateway (cell xs)))
changes_long xs s = length-append (trades_to s (gateway (cell xs))) (levels_to s (gateway (cell xs)))

module _ (xs : List ℕ) (s : ℕ) where
  abbrev g : Gateway
  g = gateway (cell xs)

  abbrev picked : Bool
  picked = is_open (session_at s g.rest) && is_subscribed (session_at s g.rest)

  pub rows_told : (b : Bool) → b ≡ picked → b ≡ true → (t c : ℕ) → t ≡ word (cell xs) C.trade_rows → c ≡ word (cell xs) C.changed_rows → t + c ≡ length (changes_step g s)
  rows_told b e h t c p q =
      let k : changes_step g s ≡ changes_to s g.rest = ap (λ d. cond d (changes_to s g.rest) []) (sym e ∙ h) in
      let tl = length-map (rest_of xs).trades (λ t. send s (Out.TradeTick t)) in
      let ll = length-map (rest_of xs).depth.changed (λ k. level_to s (rest_of xs).delivered k.0 (D.level k (rest_of xs).depth)) in
      omega (arith, ap length k, changes_long xs s, tl, ll, trades_many xs, changed_many xs)

  pub rows_few : State xs → (t c : ℕ) → t ≡ word (cell xs) C.trade_rows → c ≡ word (cell xs) C.changed_rows → t + c ≤ most_changes
  rows_few st t c p q = omega (arith, st.sound.tables.ordered.bounds.trades_fit, st.sound.tables.ordered.bounds.changed_fit)

  pub rows_quiet : (b : Bool) → b ≡ picked → b ≡ false → 0 ≡ length (changes_step g s)
  rows_quiet b e h = ap (λ d. length (cond d (changes_to s g.rest) [])) (sym h ∙ e)

  pub room_trades : (i k : ℕ) → i + length (changes_to s (rest_of xs)) ≤ k → i + length (trades_to s (gateway (cell xs))) ≤ k
  room_trades i k l = omega (arith, changes_long xs s)

  -- behind the trades
  module _ {ys : List ℕ} (out : List ℕ) {mid : List ℕ} (i n : ℕ) (t : Told (trades_to s) i n xs ys out mid) where
    same_levels : levels_to s (gateway (cell ys)) ≡ levels_to s (gateway (cell xs))
    same_levels =
        sends_kept (λ (r : Rest). map (λ k. level_to s r.delivered k.0 (D.level k r.depth)) r.depth.changed) (λ zs r. refl) xs i (trades_to s (gateway (cell xs))) t.sends

    pub room_levels : i + length (changes_to s (rest_of xs)) ≤ places (length out) → n + length (levels_to s (gateway (cell ys))) ≤ places (length mid)
    room_levels l = rw (sends_room t.sends) (omega (arith, t.next_is, changes_long xs s, ap length same_levels))

    pub both_told : {zs end : List ℕ} {k : ℕ} → Told (levels_to s) n k ys zs mid end → Told (λ h. changes_to s h.rest) i k xs zs out end
    both_told {zs} {end} {k} v =
        let q : Sends n (levels_to s (gateway (cell xs))) (λ x. x) ys zs mid end = rw same_levels at v.sends in
        record {
          next_is = omega (arith, v.next_is, t.next_is, ap length same_levels, changes_long xs s);
          sends = sends_more xs out i n (trades_to s (gateway (cell xs))) (levels_to s (gateway (cell xs))) (λ x. x) t.sends t.next_is q;
        }

  module _ (b : Bool) (b_is : b ≡ picked) where
    told_is : b ≡ true → changes_step g s ≡ changes_to s g.rest
    told_is h = ap (λ d. cond d (changes_to s g.rest) []) (sym b_is ∙ h)

    pub visit_room : b ≡ true → (i k : ℕ) → i + length (changes_step g s) ≤ k → i + length (changes_to s (rest_of xs)) ≤ k
    visit_room h i k l = omega (arith, ap length (told_is h))

    pub visit_told : b ≡ true → {ys : List ℕ} (out : List ℕ) {end : List ℕ} (i n : ℕ) → Told (λ h. changes_to s h.rest) i n xs ys out end → Stepped changes_step i s n xs ys out end
    visit_told h out i n t = record { next_is = t.next_is ∙ ap (λ ms. i + length ms) (sym (told_is h)); sends = rw (told_is h) t.sends }

    pub visit_quiet : State xs → b ≡ false → (out : List ℕ) (i : ℕ) → Stepped changes_step i s i xs xs out out
    visit_quiet st h out i =
        let e : changes_step g s ≡ [] = ap (λ d. cond d (changes_to s g.rest) []) (sym b_is ∙ h) in
        record { next_is = omega (arith, ap length e); sends = rw e (sends_none i out st) }

-- ---- all of them

pub sessions_each : (xs : List ℕ) (m : ℕ) → m ≡ session_slots → steps changes_step (gateway (cell xs)) m ≡ market (gateway (cell xs))
sessions_each xs m e =
    let r = rest_of xs in
    steps_sessions (λ s x. cond (is_open x && is_subscribed x) (changes_to s r) []) changes_step (gateway (cell xs)) (λ j. refl) m (e ∙ sym (slots xs))

pub ruleset changes = (trade_small, trade_sends, update_is, changed_small, level_sends, rows_told, rows_few, rows_quiet, room_trades, both_told, visit_told, visit_quiet, arith)
