-- The levels of each side go out, behind their number. Assumes nothing.
use Rattle.std.specs.Prelude.{Option, Some, None, option_map}
use mathlib.Core.Path.{◌≡◌, refl, sym, ap, subst, ◌∙◌}
use mathlib.Core.List.{List, [], ◌∷◌, ◌++◌, map, map-map}
use Prim.Native.Nat.{ℕ, zero, suc, ◌+◌, ◌≤◌, ◌<◌}
use native.Mathlib.Omega.{arith}
use lib.ListN.{length, length-append, length-map, get_or}
use Rattle.orderbook.specs.declared.Side.{Side}
use Rattle.orderbook.specs.declared.Side.TheVariants.{Buy, Sell}
use Rattle.protocol.specs.declared.Outbound.TheVariants as Out
use Rattle.gateway.specs.Limits.{session_slots, most_orders}
use Rattle.gateway.specs.Depth as D
use Rattle.gateway.specs.Rest as Rest
use Rattle.gateway.specs.Rest.{Session, Rest, send, with_sessions, update_session, stamped}
use Rattle.gateway.specs.Entry.{level_to, snapshot}
use Rattle.gateway.specs.Calls.{Gateway}
use Rattle.store.specs.Cells as C
use Rattle.store.specs.Layout.{cell}
use Rattle.store.specs.View.{word, gateway, Is}
use Rattle.clients.specs.Clients as Clients
use Rattle.clients.proofs.Views.{subscribed_view}
use Rattle.levels.specs.declared.Row.{Row}
use Rattle.levels.specs.Levels as L
use Rattle.levels.specs.Listed.{nth, firsts}
use Rattle.sound.specs.Sound.{State, Becomes}
use Rattle.sound.proofs.Kept.{becomes}
use Rattle.sound.proofs.Clients.{session_sound}
use Rattle.sound.proofs.Listed.{size_levels, firsts_below, firsts_at}
use Rattle.rows.specs.Rows.{put_rows}
use Rattle.mailbox.specs.Mailbox.{places, mail_row, mailed}
use Rattle.mailbox.proofs.Rows.{mailed_append, length_mailed}
use Rattle.outcome.specs.Parts.{with_rest, rest_of, Sends}
use Rattle.outcome.proofs.Changed.{changed_at}
use Rattle.outcome.proofs.Walk.{stamped_append}
use Rattle.depth.specs.Levels.{side_levels}
use Rattle.depth.proofs.Laws.{side_few}
use Rattle.feed.specs.Feed.{Told}
use Rattle.feed.proofs.Stamps.{sends_kept, sends_room}
use Rattle.subscribe.specs.Subscribe.{levels_to, Posts, level_count, first_to}
use Rattle.subscribe.proofs.Few.{level_few}

-- ---- a side

-- a level has no more orders than there are
pub orders_few : {xs : List ℕ} → State xs → (z : Side) (j : ℕ) {n : ℕ} → n ≡ L.used z (cell xs) → j < n → {p : ℕ} → p ≡ nth z n j → {r : Row} → r ≡ L.row z (cell xs) p → (r.orders ≡ 0 → ⊥) → r.orders ≤ most_orders
orders_few {xs} st z j {n} n_is h {p} p_is {r} r_is d =
    let os = (rest_of xs).depth.resting in
    let ls = firsts z (cell xs) j in
    let few = level_few z os (length ls) (L.level r) (firsts_below st.sound z j n p r n_is h p_is r_is d) in
    let e : get_or (D.levels z os) (length ls) (L.level r) ≡ L.level r = firsts_at st.sound z j n p r n_is h p_is r_is d in
    omega (arith, few, ap (λ (q : D.Level). q.orders) e, st.sound.tables.ordered.counted.resting_count, st.sound.tables.resting_few)

pub levels_long : (s : ℕ) (z : Side) (g : Gateway) → length (levels_to s z g) ≡ length (side_levels z g.rest)
levels_long s z g = length-map (side_levels z g.rest) (level_to s g.rest.delivered z)

-- the row of a level's message
abbrev pub level_mail : ℕ → Side → List ℕ → D.Level → List ℕ
level_mail s z xs l = mail_row (level_to s (rest_of xs).delivered z l)

pub levels_posted : (s : ℕ) (z : Side) (xs : List ℕ) {out end : List ℕ} {i k : ℕ} → (end ≡ put_rows 96 i (map (level_mail s z xs) (side_levels z (rest_of xs))) out) × (k ≡ i + length (side_levels z (rest_of xs))) →
    Posts (levels_to s z) i k xs out end
unfolding mailed
levels_posted s z xs {out} {end} {i} p =
    record {
      next_is = omega (arith, p.1, levels_long s z (gateway (cell xs)));
      posted = p.0 ∙ ap (λ rs. put_rows 96 i rs out) (sym (map-map mail_row (level_to s (rest_of xs).delivered z) (side_levels z (rest_of xs))));
    }

-- ---- the first message

module _ {xs : List ℕ} (st : State xs) where
  pub levels_many : (b a : ℕ) → b ≡ L.size Buy (cell xs) → a ≡ L.size Sell (cell xs) → b + a ≡ level_count (rest_of xs)
  levels_many b a e f = omega (arith, size_levels st.sound Buy, size_levels st.sound Sell)

  pub levels_fit : (b a : ℕ) → b ≡ L.size Buy (cell xs) → a ≡ L.size Sell (cell xs) → b + a ≤ 1024
  levels_fit b a e f = omega (arith, side_few st Buy, side_few st Sell)

pub first_sends : (xs : List ℕ) {ys : List ℕ} (out : List ℕ) {end : List ℕ} (i s n seq : ℕ) → n ≡ level_count (rest_of xs) → seq ≡ word (cell xs) C.delivered →
    Sends i (send s (Out.BookSnapshot seq n) ∷ []) (λ x. x) xs ys out end → Told (first_to s) i (i + 1) xs ys out end
first_sends xs {ys} out {end} i s n seq e f h =
    record { next_is = refl; sends = subst (λ (k : ℕ). Sends i (send s (Out.BookSnapshot (rest_of xs).delivered k) ∷ []) (λ x. x) xs ys out end) e (rw f at h) }

-- ---- who was sent a message now is stamped once

twice_one : (t : ℕ) (x : Option Session) → option_map (Rest.set_sent t) (option_map (Rest.set_sent t) x) ≡ option_map (Rest.set_sent t) x
twice_one t None = refl
twice_one t (Some x) = refl

twice : (t s : ℕ) (xs : List (Option Session)) → changed_at (Rest.set_sent t) s (changed_at (Rest.set_sent t) s xs) ≡ changed_at (Rest.set_sent t) s xs
twice t s [] = refl
twice t zero (x ∷ xs) = ap (λ y. y ∷ xs) (twice_one t x)
twice t (suc s) (x ∷ xs) = ap (λ ys. x ∷ ys) (twice t s xs)

still : (s d : ℕ) (z : Side) (ls : List D.Level) (r : Rest) → update_session s (Rest.set_sent r.clock) r ≡ r → stamped (map (level_to s d z) ls) r ≡ r
still s d z [] r e = refl
still s d z (l ∷ ls) r e = ap (stamped (map (level_to s d z) ls)) e ∙ still s d z ls r e

once : (s : ℕ) (r : Rest) → stamped (snapshot s r) r ≡ update_session s (Rest.set_sent r.clock) r
once s r =
    let now = update_session s (Rest.set_sent r.clock) r in
    let e : update_session s (Rest.set_sent now.clock) now ≡ now = ap (λ xs. with_sessions xs r) (twice r.clock s r.sessions) in
    let bids = map (level_to s r.delivered Buy) (side_levels Buy r) in
    let asks = map (level_to s r.delivered Sell) (side_levels Sell r) in
    stamped_append bids asks now ∙ ap (stamped asks) (still s r.delivered Buy (side_levels Buy r) now e) ∙ still s r.delivered Sell (side_levels Sell r) now e

-- ---- all of it

snapshot_long : (s : ℕ) (g : Gateway) → length (snapshot s g.rest) ≡ 1 + (length (levels_to s Buy g) + length (levels_to s Sell g))
snapshot_long s g = omega (arith, length-append (levels_to s Buy g) (levels_to s Sell g))

module _ (xs : List ℕ) (s : ℕ) (out : List ℕ) (i : ℕ) where
  abbrev g : Gateway
  g = gateway (cell xs)

  pub first_room : i + length (snapshot s (rest_of xs)) ≤ places (length out) → i < places (length out)
  first_room l = omega (arith, snapshot_long s g)

  module _ {ys mid : List ℕ} (n : ℕ) (t : Told (first_to s) i n xs ys out mid) where
    same_first : (z : Side) → levels_to s z (gateway (cell ys)) ≡ levels_to s z g
    same_first z = sends_kept (λ (r : Rest). map (level_to s r.delivered z) (side_levels z r)) (λ zs r. refl) xs i (first_to s g) t.sends

    pub bids_room : i + length (snapshot s (rest_of xs)) ≤ places (length out) → n + length (side_levels Buy (rest_of ys)) ≤ places (length mid)
    bids_room l =
        rw (sends_room t.sends) (omega (arith, t.next_is, snapshot_long s g, ap length (same_first Buy), levels_long s Buy (gateway (cell ys))))

    module _ {fin : List ℕ} (k : ℕ) (v : Posts (levels_to s Buy) n k ys mid fin) where
      pub asks_room : i + length (snapshot s (rest_of xs)) ≤ places (length out) → k + length (side_levels Sell (rest_of ys)) ≤ places (length fin)
      asks_room l =
          let e : length fin ≡ length mid = ap length v.posted ∙ length_mailed n (levels_to s Buy (gateway (cell ys))) mid in
          rw (e, sends_room t.sends)
          (omega (arith, t.next_is, v.next_is, snapshot_long s g, ap length (same_first Buy), ap length (same_first Sell), levels_long s Sell (gateway (cell ys))))

      pub snapshot_sends : {end : List ℕ} (m : ℕ) → Posts (levels_to s Sell) k m ys fin end → Sends i (snapshot s (rest_of xs)) (λ x. x) xs ys out end
      snapshot_sends {end} m w =
          let bids = levels_to s Buy g in
          let asks = levels_to s Sell g in
          let b : fin ≡ mailed n bids mid = v.posted ∙ ap (λ ms. mailed n ms mid) (same_first Buy) in
          let a : end ≡ mailed k asks fin = w.posted ∙ ap (λ ms. mailed k ms fin) (same_first Sell) in
          let at : n + length bids ≡ k = omega (arith, v.next_is, ap length (same_first Buy)) in
          let behind : end ≡ mailed n (bids ++ asks) mid = a ∙ ap (mailed k asks) b ∙ ap (λ y. mailed y asks (mailed n bids mid)) (sym at) ∙ sym (mailed_append n bids asks mid) in
          let next : i + length (first_to s g) ≡ n = sym t.next_is in
          record {
            becomes = record { state = t.sends.becomes.state; gateway_is = t.sends.becomes.gateway_is ∙ ap (λ (r : Rest). with_rest (λ _. r) g) (sym (once s g.rest)) };
            posted = behind ∙ ap (mailed n (bids ++ asks)) t.sends.posted ∙ ap (λ y. mailed y (bids ++ asks) (mailed i (first_to s g) out)) (sym next) ∙ sym (mailed_append i (first_to s g) (bids ++ asks) out);
          }

-- ---- the session is subscribed

pub subscribed_becomes : {xs ys : List ℕ} → State xs → (s : ℕ) → s < session_slots → Is ys (Clients.set_subscribed s (cell xs)) → Becomes ys (with_rest (update_session s Rest.set_subscribed) (gateway (cell xs)))
subscribed_becomes {xs} st s l h = becomes h (session_sound (cell xs) st.sound s C.session_subscribed 1 (omega arith)) (subscribed_view s (cell xs) l)

pub ruleset snapshots = (levels_many, levels_fit, first_sends, subscribed_becomes, arith)
