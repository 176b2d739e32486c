-- A gateway with room serves: what `RoomServes` of specs/Claims.antt claims. Assumes nothing.
use Rattle.std.specs.Prelude.{Option, Some, None, unwrap_or, is_some}
use Prim.Native.Nat.{ℕ, suc, ◌+◌, ◌<◌}
use mathlib.Core.Bool.{Bool, true, false, cond, not, ◌&&◌, ◌||◌, true≢false}
use mathlib.Core.Path.{◌≡◌, refl, ap, ap₂, sym, ◌∙◌, subst}
use mathlib.Core.List.{List, [], ◌∷◌, ◌++◌, append-nil}
use native.Mathlib.Omega.{arith}
use borrow.Author.Tests.{lt-ltb, le-leb, eq-eqb}
use lib.IntN.{ℤ, pos, +ℤ_idr}
use lib.Signed.{le_z}
use lib.ListN.{length, set}
use lib.Dec.{eqb, ltb, leb}
use Rattle.orderbook.specs.declared.Side.{Side}
use Rattle.orderbook.specs.declared.Side.TheVariants.{Buy, Sell}
use Rattle.orderbook.specs.declared.Command.{Command}
use Rattle.orderbook.specs.declared.Command.TheVariants.{Cancel, Modify, CancelAll}
use Rattle.orderbook.specs.declared.Event.{Event}
use Rattle.orderbook.specs.declared.Event.TheVariants.{Accepted, Rejected, Trade, Rested, Replenished, Cancelled, Modified, StopPlaced, Triggered, MassCancelled, PhaseChanged}
use Rattle.orderbook.specs.declared.Listed.{Listed}
use Rattle.protocol.specs.declared.Inbound.{Inbound}
use Rattle.protocol.specs.declared.Inbound.TheVariants as In
use Rattle.protocol.specs.declared.NewOrder.{NewOrder}
use Rattle.protocol.specs.declared.OrderKind.{OrderKind}
use Rattle.protocol.specs.declared.OrderKind.TheVariants as Kind
use Rattle.protocol.specs.declared.Outbound.TheVariants as Out
use Rattle.protocol.specs.declared.RejectCode.{RejectCode}
use Rattle.protocol.specs.declared.RejectCode.TheVariants.{TooManyOrders, Throttled, Unavailable, InsufficientFunds, NotAllowed, OffMarket}
use Rattle.accounts.specs.declared.Account.{Account}
use Rattle.accounts.specs.declared.Funds.{Funds}
use Rattle.accounts.specs.declared.Timing.{Timing}
use Rattle.words.specs.Words.{least, most, fit, fit_in, place_of, inside, above, below, modulus}
use Rattle.risk.specs.declared.Bucket.{Bucket}
use Rattle.gateway.specs.Basics.{option}
use Rattle.gateway.specs.Limits.{most_in_flight, most_orders, most_notices, most_trades, full, too_short, inconsistent, not_quiet}
use Rattle.table.specs.Live.{look, insert}
use Rattle.gateway.specs.Ledger.{Order, Ledger, New, Item, account, command, event, order_of, owner_of, placed, Change, mark_by, fill, set_leaves, reprice, retire, wallet_of, change, changes, step, same_side, hold, order_hold, held_by, held, fits, wallets_fit, holds_fit}
use Rattle.gateway.specs.Core.{Tests, Pass, Origin, Core, account_at, places, tests, fits_after}
use Rattle.gateway.specs.Depth.{apply, add, levels_few, depth_few}
use Rattle.gateway.specs.Rest.{Session, Mail, send, pending, Rest, at_time, with_sessions, with_buckets, session_at, account_of, is_present, update_session, set_received}
use Rattle.gateway.specs.Entry.{Answer, Plan, refuse, quiet, records, unless, sends, wallet_at, ended, login_tests, logged_in, greet, reject, next, can_number, queued, numbered, command_of, paper_tests, is_zero, price_of, new_notice, most_open, new_tests, enter_new, enter_other, taken, with_token, publish_mail, published, hear, receive}
use Rattle.gateway.specs.Deliver.{named, notices_of, tick_of, order_notices, deliver_tests, deliver}
use Rattle.gateway.specs.Listing.{listing_agrees, listed_depth}
use Rattle.gateway.specs.Calls.{Call, add_account, connect, set_paper_collar, wallet, last_seq, depth_levels, receive_from, tick, publish, end_session, shut_down, disconnect, detach, take_batch, deliver_event, replay_command, replay_event, finish, checkpoint}
use Rattle.gateway.specs.Calls.{mail_of, within, ticked, all_ended, without_session, gone, replay_tests, plan}
use Rattle.gateway.specs.Start.{begin, empty_depth}
use Rattle.gateway.proofs.Base.{split}
use Rattle.gateway.proofs.Money.{between, zero_fits}
use Rattle.gateway.proofs.Invariant.{Shrinks, empty, shrunk}
use Rattle.gateway.proofs.Calls.{unless_pass}
use Rattle.gateway.specs.Claims.{Roomy, spent, Member, RoomServes}

-- such a gateway begins where no order is listed or saved
begins : (timing : Timing) (l : Ledger) (t : List (Option Account)) → l.orders ≡ [] → l.last + 1 < modulus →
    (let g = begin timing l t empty_depth [] in Roomy g.core g.rest)
begins timing l t e h =
    record { flying = omega arith; waiting = refl; number = h; orders = e; resting = refl; changed = refl; trades = refl; notices = refl; delivered = refl }

-- ---- one order's hold is in range, whatever it is

or_zero : (z : ℤ) → fits (unwrap_or (fit z) (pos 0)) ≡ true
unfolding place_of
or_zero z =
    split (λ x. (le_z least z ≡ x) → fits (unwrap_or (fit_in (cond x (cond (le_z z most) (inside z) above) below)) (pos 0)) ≡ true) (le_z least z)
    (λ _ a. split (λ y. (le_z z most ≡ y) → fits (unwrap_or (fit_in (cond y (inside z) above)) (pos 0)) ≡ true) (le_z z most) (λ _ b. between z a b) (λ _ b. zero_fits) refl)
    (λ _ a. zero_fits) refl

hold_fits : (fee : ℤ) (s : Side) (p : Option ℤ) (v : ℕ) → fits (hold fee s p v) ≡ true
unfolding hold
hold_fits fee s None v = zero_fits
hold_fits fee Buy (Some p) v = or_zero _
hold_fits fee Sell (Some p) v = or_zero _

held_one : (fee : ℤ) (a : ℕ) (s : Side) (o : Order) → fits (held fee a s (o ∷ [])) ≡ true
held_one fee a s o =
    ap fits (+ℤ_idr (held_by fee a s o))
    ∙ split (λ b. fits (cond b (order_hold fee o) (pos 0)) ≡ true) (eqb o.account a && same_side s o.side) (λ e. hold_fits fee o.side o.price o.leaves) (λ e. zero_fits)

one_fits : (fee : ℤ) (ref n b : ℕ) (x : Option New) (a : ℕ) (ws : List (Option Funds)) → wallets_fit fee a ws (placed ref n b x) ≡ true
one_fits fee ref n b x a [] = refl
one_fits fee ref n b x a (None ∷ ws) = one_fits fee ref n b x (suc a) ws
one_fits fee ref n b None a (Some w ∷ ws) = rw zero_fits (one_fits fee ref n b None (suc a) ws)
one_fits fee ref n b (Some x) a (Some w ∷ ws) = rw (held_one fee a Buy _, held_one fee a Sell _) (one_fits fee ref n b (Some x) (suc a) ws)

room_fits : (c : Core) (n : ℕ) (k : Command) → c.ledger.orders ≡ [] → fits_after (command n k) c ≡ true
unfolding step holds_fit
room_fits c n k e =
    ap (λ os. wallets_fit c.ledger.fee 0 c.ledger.wallets (os ++ placed 0 n (owner_of k) (order_of k))) e ∙ one_fits c.ledger.fee 0 n (owner_of k) (order_of k) 0 c.ledger.wallets

-- ---- plans that serve

-- not refused as full or as not quiet
abbrev pub blocks : ℕ → Bool
blocks k = eqb k full || eqb k not_quiet

abbrev pub Open : Plan → Type 0
Open (refuse k) = blocks k ≡ false
Open (quiet a ms r) = Unit {0}
Open (records from i ms r) = Unit {0}

-- nor answered by `Unavailable`; a reject is sent alone
abbrev pub Heard : List Mail → Type 0
Heard ms = (s ref : ℕ) → ms ≡ send s (Out.Reject Unavailable ref) ∷ [] → ⊥

abbrev pub Serves : Plan → Type 0
Serves (refuse k) = Open (refuse k)
Serves (quiet a ms r) = Heard ms
Serves (records from i ms r) = Unit {0}

serves_open : (p : Plan) → Serves p → Open p
serves_open (refuse k) h = h
serves_open (quiet a ms r) h = tt
serves_open (records from i ms r) h = tt

surely : {b : Bool} {X : Type 0} → b ≡ true → b ≡ false → X
surely p q = absurd (true≢false (sym p ∙ q))

module _ {A : Type 0} (bad : A → Bool) where
  -- the tests whose labels are bad pass
  abbrev pub Needs : Tests A → Type 0
  Needs [] = Unit {0}
  Needs (t ∷ ts) = cond (bad t.0) ((t.1 ≡ true) × Needs ts) (Needs ts)

  pub needs_append : (xs ys : Tests A) → Needs xs → Needs ys → Needs (xs ++ ys)
  needs_append [] ys h k = k
  needs_append (x ∷ xs) ys h k =
      split (λ d. cond d ((x.1 ≡ true) × Needs xs) (Needs xs) → cond d ((x.1 ≡ true) × Needs (xs ++ ys)) (Needs (xs ++ ys))) (bad x.0)
      (λ _ u. (u.0, needs_append xs ys u.1 k)) (λ _ u. needs_append xs ys u k) h

  -- so a property of p and of every label that is not bad is one of what the tests decide
  pub unless_needs : (Q : Plan → Type 0) (no_way : A → Plan) → ((a : A) → bad a ≡ false → Q (no_way a)) → (p : Plan) (ts : Tests A) → Needs ts → Q p → Q (unless ts no_way p)
  unfolding unless
  unless_needs Q no_way g p [] h k = k
  unless_needs Q no_way g p (t ∷ ts) h k =
      split (λ d. (bad t.0 ≡ d) → cond d ((t.1 ≡ true) × Needs ts) (Needs ts) → Q (cond t.1 (unless ts no_way p) (no_way t.0))) (bad t.0)
      (λ _ e u. rw u.0 (unless_needs Q no_way g p ts u.1 k))
      (λ _ e u. split (λ b. Q (cond b (unless ts no_way p) (no_way t.0))) t.1 (λ _. unless_needs Q no_way g p ts u k) (λ _. g t.0 e)) refl h

guard_open : (p : Plan) (ts : Tests ℕ) → Needs blocks ts → Open p → Open (unless ts refuse p)
guard_open p ts h k = unless_needs blocks Open refuse (λ n e. e) p ts h k

-- where the first test fails, the others do not matter
first_open : (p : Plan) (k : ℕ) (b : Bool) (ts : Tests ℕ) → Open (refuse k) → (b ≡ true → Needs blocks ts) → Open p → Open (unless ((k, b) ∷ ts) refuse p)
unfolding unless
first_open p k b ts g h q = split (λ x. (b ≡ x) → Open (cond x (unless ts refuse p) (refuse k))) b (λ _ e. guard_open p ts (h e) q) (λ _ e. g) refl

can_pass : {A : Type 0} (k : A) (c : Core) (r : Rest) → Roomy c r → Pass (can_number k c r)
can_pass k c r h = (lt-ltb (length c.flights) most_in_flight h.flying, (rw h.waiting refl, (lt-ltb (next c) modulus h.number, tt)))

-- clock, sessions and buckets do not matter
moved : (t : ℕ) (xs : List (Option Session)) (bs : List Bucket) (c : Core) (r : Rest) → Roomy c r → Roomy c (with_buckets bs (with_sessions xs (at_time t r)))
moved t xs bs c r h =
    record { flying = h.flying; waiting = h.waiting; number = h.number; orders = h.orders; resting = h.resting; changed = h.changed; trades = h.trades; notices = h.notices; delivered = h.delivered }

-- ---- receiving

-- a code's place
abbrev pub place : RejectCode → ℕ
place TooManyOrders = 0
place Throttled = 1
place Unavailable = 2
place InsufficientFunds = 3
place NotAllowed = 4
place OffMarket = 5

abbrev pub is_code : RejectCode → RejectCode → Bool
is_code why x = eqb (place x) (place why)

other : (s ref : ℕ) (r : Rest) (why : RejectCode) → is_code Unavailable why ≡ false → Serves (reject s ref r why)
other s ref r why h t n e = let q : why ≡ Unavailable = cc in surely (ap (is_code Unavailable) q) h

silent : Heard []
silent s ref e = let z : ◌≡◌ {A = ℕ} 0 1 = cc in omega (arith, z)

many : (m n : Mail) (ms : List Mail) → Heard (m ∷ n ∷ ms)
many m n ms s ref e = let z : ◌≡◌ {A = ℕ} 0 1 = cc in omega (arith, z)

-- a list that starts with another message, or goes on with one, is no reject
led : (m : Mail) (ms : List Mail) → ((s ref : ℕ) → m ≡ send s (Out.Reject Unavailable ref) → ⊥) → (ns : List Mail) → Heard (ns ++ (m ∷ ms))
led m ms h [] s ref e = h s ref cc
led m ms h (n ∷ []) s ref e = many n m ms s ref e
led m ms h (n ∷ k ∷ ns) s ref e = many n k _ s ref e

-- the last three tests of a new order
abbrev pub last_tests : ℕ → NewOrder → Command → Core → Rest → Tests RejectCode
last_tests a o k c r =
    (Unavailable, ltb (length c.ledger.orders) most_orders)
    ∷ (Unavailable, leb (length (r.notices ++ new_notice c.ledger.fee a o (wallet_at a c))) most_notices)
    ∷ (Unavailable, fits_after (command (next c) k) c)
    ∷ []

guard_serves : (s ref : ℕ) (r : Rest) (p : Plan) (ts : Tests RejectCode) → Needs (is_code Unavailable) ts → Serves p → Serves (unless ts (reject s ref r) p)
guard_serves s ref r p ts h k = unless_needs (is_code Unavailable) Serves (reject s ref r) (other s ref r) p ts h k

module _ (s a : ℕ) (c : Core) where
  one_notice : (o : NewOrder) (w : Option Funds) → leb (length (new_notice c.ledger.fee a o w)) most_notices ≡ true
  one_notice o None = refl
  one_notice o (Some w) =
      split (λ b. leb (length (cond b [] (a ∷ []))) most_notices ≡ true) (is_zero (hold c.ledger.fee o.side (price_of o.kind) o.qty)) (λ e. refl) (λ e. refl)

  last_pass : (o : NewOrder) (k : Command) (r : Rest) → Roomy c r → Pass (last_tests a o k c r)
  last_pass o k r h = (rw h.orders refl, (rw h.notices (one_notice o (wallet_at a c)), (room_fits c (next c) k h.orders, tt)))

  new_needs : (o : NewOrder) (k : Command) (r : Rest) → Roomy c r → Needs (is_code Unavailable) (new_tests a o k c r)
  new_needs o k r h =
      let bad = is_code Unavailable in
      needs_append bad (option [] (paper_tests a o.side o.qty c r o.kind) (wallet_at a c)) _ (paper o.kind (wallet_at a c))
      (needs_append bad (can_number Unavailable c r) (last_tests a o k c r) (can_pass Unavailable c r h) (last_pass o k r h))
    where
      paper : (k : OrderKind) (w : Option Funds) → Needs (is_code Unavailable) (option [] (paper_tests a o.side o.qty c r k) w)
      paper k None = tt
      paper (Kind.Limit z t d) (Some w) = tt
      paper Kind.Market (Some w) = tt
      paper (Kind.Stop t l) (Some w) = tt

  new_serves : (o : NewOrder) (r : Rest) → Roomy c r → Serves (enter_new s a o c r)
  new_serves o r h = let k = command_of (next c) a o.side o.qty o.kind in guard_serves s o.client_ref r _ (new_tests a o k c r) (new_needs o k r h) tt

  other_serves : (own : Tests RejectCode) (k : Command) (r : Rest) → Roomy c r → Needs (is_code Unavailable) own → Serves (enter_other s own k c r)
  other_serves own k r h g =
      guard_serves s 0 r (numbered (Some s) k c r) (own ++ can_number Unavailable c r)
      (needs_append (is_code Unavailable) own (can_number Unavailable c r) g (can_pass Unavailable c r h)) tt

  token_serves : (ref : ℕ) (r : Rest) (enter : Rest → Plan) → Roomy c r → ((q : Rest) → Roomy c q → Serves (enter q)) → Serves (with_token s a ref c r enter)
  token_serves ref r enter h g =
      let after = with_buckets (set r.buckets a (taken a c r).bucket) r in
      guard_serves s ref after (enter after) _ tt (g after (moved r.clock r.sessions _ c r h))

  hear_serves : (m : Inbound) (r : Rest) → Roomy c r → Serves (hear s a m c r)
  unfolding hear
  hear_serves (In.Login version b token) r h = λ t n e. let z : ◌≡◌ {A = ℕ} 0 1 = cc in omega (arith, z)
  hear_serves In.Logout r h = many _ _ _
  hear_serves In.Heartbeat r h = silent
  hear_serves In.Subscribe r h = led _ _ (λ t n e. let z : ◌≡◌ {A = ℕ} 0 1 = cc in omega (arith, z)) (publish_mail c r)
  hear_serves (In.NewOrder o) r h = token_serves o.client_ref r (enter_new s a o c) h (new_serves o)
  hear_serves (In.Cancel i) r h = token_serves 0 r (enter_other s [] (Cancel i a) c) h (λ q g. other_serves [] (Cancel i a) q g tt)
  hear_serves (In.Modify i p n) r h =
      let own : Tests RejectCode = (NotAllowed, not (is_some (wallet_at a c))) ∷ [] in
      token_serves 0 r (enter_other s own (Modify i a p n) c) h (λ q g. other_serves own (Modify i a p n) q g tt)
  hear_serves In.MassCancel r h = token_serves 0 r (enter_other s [] (CancelAll a) c) h (λ q g. other_serves [] (CancelAll a) q g tt)

greet_serves : (s : ℕ) (m : Inbound) (c : Core) (r : Rest) → Serves (greet s m c r)
unfolding greet
greet_serves s (In.Login version a token) c r =
    unless_needs (λ why. false) Serves (λ why. ended s (Out.LoginRejected why) r) (λ why e. many _ _ _) (logged_in s a c r) (login_tests version a token c r) tt
    (led _ _ (λ t n e. let z : ◌≡◌ {A = ℕ} 0 1 = cc in omega (arith, z)) [])
greet_serves s In.Logout c r = many _ _ _
greet_serves s In.Heartbeat c r = many _ _ _
greet_serves s (In.NewOrder o) c r = many _ _ _
greet_serves s (In.Cancel i) c r = many _ _ _
greet_serves s (In.Modify i p q) c r = many _ _ _
greet_serves s In.MassCancel c r = many _ _ _
greet_serves s In.Subscribe c r = many _ _ _

receive_serves : (s : ℕ) (m : Inbound) (c : Core) (r : Rest) → Roomy c r → Serves (receive s m c r)
unfolding receive
receive_serves s m c r h =
    let after = update_session s (set_received r.clock) r in
    split (λ b. Serves (cond b (option (greet s m c after) (λ a. hear s a m c after) (account_of (session_at s r))) (sends [] r))) (is_present (session_at s r))
    (λ _. go (account_of (session_at s r))) (λ _. silent)
  where
    go : (a : Option ℕ) → Serves (option (greet s m c (update_session s (set_received r.clock) r)) (λ b. hear s b m c (update_session s (set_received r.clock) r)) a)
    go None = greet_serves s m c _
    go (Some a) = hear_serves s a c m _ (moved r.clock _ r.buckets c r h)

-- ---- delivering

shrinks_none : {ps : List Order} → Shrinks [] ps → ps ≡ []
shrinks_none empty = refl

named_none : (x : Change) → named x [] ≡ None
unfolding look
named_none (mark_by t m p) = refl
named_none (fill n p q v) = refl
named_none (set_leaves n v) = refl
named_none (reprice n p v) = refl
named_none (retire n) = refl

no_notices : (xs : List Change) (l : Ledger) → l.orders ≡ [] → notices_of xs l ≡ []
no_notices [] l e = refl
no_notices (x ∷ xs) l e =
    let u = no_notices xs (change x l) (shrinks_none (subst (λ os. Shrinks os (change x l).orders) e (shrunk (x ∷ []) l))) in
    ap (λ o. option [] (λ y. cond (is_some (wallet_of l.wallets y)) (order_notices l.fee x y) []) o ++ notices_of xs (change x l)) (ap (named x) e ∙ named_none x) ∙ u

-- an event leaves an empty depth and an empty list of trades few
few_after : (n : ℕ) (e : Event) → (depth_few (apply e empty_depth) ≡ true) × (leb (length (tick_of n e)) most_trades ≡ true)
unfolding apply add look insert depth_few levels_few tick_of
few_after n (Rested i Buy p q v) = (refl, refl)
few_after n (Rested i Sell p q v) = (refl, refl)
few_after n (Trade t taker maker s p q tl ml) = (refl, refl)
few_after n (Replenished i s p v) = (refl, refl)
few_after n (Cancelled i q why) = (refl, refl)
few_after n (Modified i p q v) = (refl, refl)
few_after n (Accepted i) = (refl, refl)
few_after n (Rejected i why) = (refl, refl)
few_after n (StopPlaced i s t l q) = (refl, refl)
few_after n (Triggered i) = (refl, refl)
few_after n (MassCancelled o k) = (refl, refl)
few_after n (PhaseChanged p) = (refl, refl)

within_keeps : (Q : Plan → Type 0) → Q (refuse too_short) → (room : ℕ) (p : Plan) → Q p → Q (within room p)
unfolding within unless
within_keeps Q k room p h = split (λ b. Q (cond b p (refuse too_short))) (leb (length (mail_of p)) room) (λ _. h) (λ _. k)

within_open : (room : ℕ) (p : Plan) → Open p → Open (within room p)
within_open = within_keeps Open refl

deliver_needs : (n : ℕ) (e : Event) (c : Core) (r : Rest) → Roomy c r → Needs blocks (deliver_tests n e c r)
deliver_needs n e c r h =
    let d : r.depth ≡ empty_depth = λ i. record { resting = h.resting i; changed = h.changed i } in (
      ap (λ x. depth_few (apply e x)) d ∙ (few_after n e).0,
      (ap (λ ts. leb (length (ts ++ tick_of n e)) most_trades) h.trades ∙ (few_after n e).1, (rw (h.notices, no_notices (changes n e) c.ledger h.orders) refl, tt)),
    )

-- ---- every call

or_true : (b : Bool) → b || true ≡ true
or_true true = refl
or_true false = refl

-- a listing that agrees with no live order is empty
listing_few : (xs : List Listed) (os : List Order) → os ≡ [] → listing_agrees xs os ≡ true → levels_few (listed_depth xs).resting ≡ true
unfolding listing_agrees levels_few look
listing_few [] os e h = refl
listing_few (x ∷ xs) os e h = surely h (rw e refl)

pub plan_open : (c : Core) (r : Rest) (x : Call) → Roomy c r → Open (plan c r x)
unfolding plan tests
plan_open c r (add_account a) h = guard_open _ (tests (account a) c) tt tt
plan_open c r (connect s t) h = guard_open _ _ tt tt
plan_open c r (set_paper_collar p) h = tt
plan_open c r (wallet a) h = tt
plan_open c r last_seq h = tt
plan_open c r (depth_levels s room) h = guard_open _ _ tt tt
plan_open c r (receive_from s m t room) h =
    within_open room (receive s m c (at_time t r)) (serves_open (receive s m c (at_time t r)) (receive_serves s m c _ (moved t r.sessions r.buckets c r h)))
plan_open c r (tick t room) h = within_open room (ticked (at_time t r)) tt
plan_open c r (publish room) h = within_open room (sends (publish_mail c r) (published r)) tt
plan_open c r (end_session s why room) h =
    within_open room _ (split (λ b. Open (cond b (ended s (Out.Logout why) r) (sends [] r))) (is_present (session_at s r)) (λ _. tt) (λ _. tt))
plan_open c r (shut_down room) h = within_open room (all_ended r) tt
plan_open c r (disconnect s) h = go (account_of (session_at s r))
  where
    go : (a : Option ℕ) → Open (gone a c (without_session s r))
    go None = tt
    go (Some a) = guard_open _ (can_number full c (without_session s r)) (can_pass full c (without_session s r) (moved r.clock (set r.sessions s None) r.buckets c r h)) tt
plan_open c r (detach s) h = tt
plan_open c r (take_batch room) h = guard_open _ _ tt tt
plan_open c r (deliver_event n e room) h = guard_open _ (deliver_tests n e c r) (deliver_needs n e c r h) (within_open room (deliver n e c r) tt)
plan_open c r (replay_command n k) h =
    guard_open _ (replay_tests (command n k) c r) (lt-ltb (length c.flights) most_in_flight h.flying, (rw h.orders (or_true (not (places k))), tt)) tt
plan_open c r (replay_event n e) h = guard_open _ (replay_tests (event n e) c r) tt tt
plan_open c r (finish xs) h = first_open _ inconsistent _ _ refl (λ e. (listing_few xs c.ledger.orders h.orders e, tt)) tt
plan_open c r (checkpoint room) h = guard_open _ _ (rw h.waiting refl, (eq-eqb r.delivered c.ledger.last h.delivered, tt)) tt

-- so neither code comes of any call
pub never_full : (c : Core) (r : Rest) (x : Call) → Roomy c r → (plan c r x ≡ refuse full → ⊥) × (plan c r x ≡ refuse not_quiet → ⊥)
never_full c r x h =
    let p = plan_open c r x h in
    (λ e. surely refl (subst Open e p), λ e. surely refl (subst Open e p))

-- and `Unavailable` of no received message
receives : (s : ℕ) (m : Inbound) (t room : ℕ) (c : Core) (r : Rest) → Roomy c r → Serves (plan c r (receive_from s m t room))
unfolding plan
receives s m t room c r h =
    within_keeps Serves refl room (receive s m c (at_time t r)) (receive_serves s m c (at_time t r) (moved t r.sessions r.buckets c r h))

never_unavailable : (c : Core) (r : Rest) (s : ℕ) (m : Inbound) (t room : ℕ) → Roomy c r → (a : Answer) (z ref : ℕ) (q : Rest) →
    plan c r (receive_from s m t room) ≡ quiet a (send z (Out.Reject Unavailable ref) ∷ []) q → ⊥
never_unavailable c r s m t room h a z ref q e = subst Serves e (receives s m t room c r h) z ref refl

-- ---- a member is served

pass_join : {A : Type 0} (xs ys : Tests A) → Pass xs → Pass ys → Pass (xs ++ ys)
pass_join [] ys p q = q
pass_join (x ∷ xs) ys p q = (p.0, pass_join xs ys p.1 q)

module _ (s a : ℕ) (c : Core) (r : Rest) (h : Roomy c r) (m : Member a c r) where
  roomy_spent : Roomy c (spent a c r)
  roomy_spent = moved r.clock r.sessions _ c r h

  tokened : (ref : ℕ) (enter : Rest → Plan) → with_token s a ref c r enter ≡ enter (spent a c r)
  tokened ref enter = unless_pass (reject s ref (spent a c r)) (enter (spent a c r)) _ (m.token, tt)

  new_pass : (o : NewOrder) (k : Command) → Pass (new_tests a o k c (spent a c r))
  new_pass o k = (
    rw h.orders (lt-ltb 0 (most_open (account_at a c)) m.limit),
    pass_join (option [] (paper_tests a o.side o.qty c (spent a c r) o.kind) (wallet_at a c)) _ (rw m.no_wallet tt)
        (pass_join (can_number Unavailable c (spent a c r)) (last_tests a o k c (spent a c r)) (can_pass Unavailable c (spent a c r) roomy_spent) (last_pass s a c o k (spent a c r) roomy_spent)),
  )

  -- the new order is numbered under the client's reference, and nobody is sent anything
  new : (o : NewOrder) → (let k = command_of (next c) a o.side o.qty o.kind in
      hear s a (In.NewOrder o) c r ≡ records (record { client_ref = o.client_ref; session = Some s }) (command (next c) k) [] (queued k (spent a c r)))
  unfolding hear
  new o =
      let k = command_of (next c) a o.side o.qty o.kind in
      let told : List ℕ → Plan = λ ns.
      records (record { client_ref = o.client_ref; session = Some s }) (command (next c) k) [] (queued k (pending r.depth r.trades ns (spent a c r))) in
      tokened o.client_ref (enter_new s a o c)
      ∙ unless_pass (reject s o.client_ref (spent a c r)) (told (r.notices ++ new_notice c.ledger.fee a o (wallet_at a c))) (new_tests a o k c (spent a c r)) (new_pass o k)
      ∙ ap (λ w. told (r.notices ++ new_notice c.ledger.fee a o w)) m.no_wallet
      ∙ ap told (append-nil r.notices)

  other_numbered : (own : Tests RejectCode) (k : Command) → Pass own → with_token s a 0 c r (enter_other s own k c) ≡ numbered (Some s) k c (spent a c r)
  other_numbered own k p =
      tokened 0 (enter_other s own k c)
      ∙ unless_pass (reject s 0 (spent a c r)) (numbered (Some s) k c (spent a c r)) (own ++ can_number Unavailable c (spent a c r)) (pass_join own _ p (can_pass Unavailable c (spent a c r) roomy_spent))

  cancel : (i : ℕ) → hear s a (In.Cancel i) c r ≡ numbered (Some s) (Cancel i a) c (spent a c r)
  unfolding hear
  cancel i = other_numbered [] (Cancel i a) tt

  modify : (i : ℕ) (p : ℤ) (q : ℕ) → hear s a (In.Modify i p q) c r ≡ numbered (Some s) (Modify i a p q) c (spent a c r)
  unfolding hear
  modify i p q = other_numbered ((NotAllowed, not (is_some (wallet_at a c))) ∷ []) (Modify i a p q) (rw m.no_wallet refl, tt)

  mass : hear s a In.MassCancel c r ≡ numbered (Some s) (CancelAll a) c (spent a c r)
  unfolding hear
  mass = other_numbered [] (CancelAll a) tt

-- what is heard of an open session is what the call does, where it sends nothing
heard : (s a t room : ℕ) (x : Inbound) (y : Session) (c : Core) (r : Rest) (from : Origin) (i : Item) (q : Rest) → session_at s r ≡ Some y →
    y.account ≡ Some a → y.closing ≡ false → hear s a x c (update_session s (set_received t) (at_time t r)) ≡ records from i [] q → plan c r (receive_from s x t room) ≡ records from i [] q
unfolding plan receive within
heard s a t room x y c r from i q e f g h =
    let after = update_session s (set_received t) (at_time t r) in
    let hears : Bool → Option ℕ → Plan = λ b o. cond b (option (greet s x c after) (λ z. hear s z x c after) o) (sends [] (at_time t r)) in
    ap (λ z. within room (hears (is_present z) (account_of z))) e
    ∙ ap₂ (λ b o. within room (hears (not b) o)) g f
    ∙ ap (within room) h
    ∙ unless_pass refuse (records from i [] q) _ (le-leb 0 room (omega arith), tt)

pub room_serves : RoomServes
room_serves =
    record {
      begins = begins;
      never_full = never_full;
      never_unavailable = never_unavailable;
      new = new;
      cancel = cancel;
      modify = modify;
      mass = mass;
      heard = heard;
    }
