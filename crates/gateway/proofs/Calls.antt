-- Every call's plan is good: an item that it records passes replay's checks, and the rest keeps its invariant. Assumes nothing.
use Rattle.std.specs.Prelude.{Option, Some, None, option_map, is_some}
use Prim.Native.Nat.{ℕ, zero, suc, ◌<◌, ◌≤◌}
use mathlib.Core.Bool.{Bool, true, false, cond, not, ◌||◌, and-eq-true_iff}
use mathlib.Core.Path.{◌≡◌, refl, ap, sym, ◌∙◌, subst}
use mathlib.Core.List.{List, [], ◌∷◌, ◌++◌, append-nil}
use native.Mathlib.Omega.{arith}
use borrow.Author.Tests.{ltb-true, lt-ltb, leb-true, le-leb, eq-eqb, eqb-true}
use lib.ListN.{length, get_or, set, length-set, length-append}
use lib.Seq.{get_or-set_same}
use lib.Dec.{ltb, leb}
use Rattle.orderbook.specs.declared.Side.{Side}
use Rattle.orderbook.specs.declared.Command.{Command}
use Rattle.orderbook.specs.declared.Command.TheVariants.{Cancel, Modify, CancelAll}
use Rattle.orderbook.specs.declared.Event.{Event}
use Rattle.orderbook.specs.declared.Listed.{Listed}
use Rattle.protocol.specs.declared.Inbound.{Inbound}
use Rattle.protocol.specs.declared.Inbound.TheVariants as In
use Rattle.protocol.specs.declared.NewOrder.{NewOrder}
use Rattle.protocol.specs.declared.OrderKind.{OrderKind}
use Rattle.protocol.specs.declared.OrderKind.TheVariants as Kind
use Rattle.protocol.specs.declared.Outbound.TheVariants as Out
use Rattle.protocol.specs.declared.RejectCode.{RejectCode}
use Rattle.protocol.specs.declared.RejectCode.TheVariants.{Unavailable, NotAllowed}
use Rattle.accounts.specs.declared.Account.{Account}
use Rattle.gateway.specs.Basics.{option}
use Rattle.gateway.specs.Limits.{most_orders, most_in_flight, most_in_batch, most_trades, most_notices, full}
use Rattle.gateway.specs.Ledger.{account, command, event, order_of, owner_of, placed, step, wallets_fit, holds_fit}
use Rattle.gateway.specs.Core.{Tests, Pass, system, Flight, Core, account_at, drop_below, is_first, places, own_number, owner_below, fits_after, event_tests, tests}
use Rattle.gateway.specs.Depth.{depth_few, levels_few}
use Rattle.gateway.specs.Rest.{Session, Mail, send, close, Rest, at_time, with_sessions, with_buckets, with_delivered, session_at, account_of, is_present, session_of, update_session, set_received, set_account, set_closing, set_subscribed, stamped}
use Rattle.gateway.specs.Entry.{Plan, refuse, quiet, records, unless, sends, wallet_at, ended, token_is, login_tests, logged_in, greet, reject, next, can_number, queued, numbered, command_of, paper_tests, new_notice, new_tests, noticing, enter_new, enter_other, taken, with_token, published, hear, receive}
use Rattle.gateway.specs.Deliver.{feed_tests, deliver_tests, deliver}
use Rattle.gateway.specs.Listing.{listed_depth}
use Rattle.gateway.specs.Calls.{Call, add_account, connect, set_paper_collar, wallet, last_seq, depth_levels, receive_from, tick, publish, end_session, shut_down, disconnect, detach, take_batch, deliver_event, replay_command, replay_event, finish, checkpoint}
use Rattle.gateway.specs.Calls.{within, ticked, all_ended, is_idle, fresh_session, without_session, gone, joined, replay_tests, finished, finish_tests, plan}
use Rattle.gateway.specs.Fits.{Unsigned, CommandFits, EventFits, KindFits, InboundFits, CallFits}
use Rattle.gateway.proofs.Base.{split}
use Rattle.gateway.proofs.Invariant.{runs_below, ItemFits}
use Rattle.gateway.proofs.Sessions.{Alike, alike_ok, set_alike, update_alike, closed_alike, stamped_alike, emptied_ok, nobody, taken_ok}
use Rattle.gateway.proofs.Feed.{apply_rises, published_ok}
use Rattle.gateway.proofs.Listing.{agrees_distinct, resting_rises, resting_length}
use Rattle.gateway.specs.Invariant.{CoreOk, Known, RestOk, Runs}
use Rattle.words.specs.Words.{modulus}

-- that the numbers of what is recorded fit may hang on a fact F about the call
abbrev pub Good : Type 0 → Core → Plan → Type 0
Good F c (refuse k) = Unit {0}
Good F c (quiet a ms r) = RestOk c.accounts c.ledger.last r
Good F c (records from i ms r) =
    Pass (tests i c) × ((F → Unsigned from.client_ref × ItemFits i) × RestOk c.accounts c.ledger.last r)

-- ---- plans

pub unless_good : (F : Type 0) {A : Type 0} (c : Core) (no_way : A → Plan) (p : Plan) (ts : Tests A) → ((a : A) → Good F c (no_way a)) → (Pass ts → Good F c p) → Good F c (unless ts no_way p)
unfolding unless
unless_good F c no_way p [] g h = h tt
unless_good F c no_way p (t ∷ ts) g h =
    split (λ b. Good F c (cond b (unless ts no_way p) (no_way t.0))) t.1 (λ e. unless_good F c no_way p ts g (λ u. h (e, u))) (λ e. g t.0)

-- where the tests pass, the plan is the one that they guard
pub unless_pass : {A : Type 0} (no_way : A → Plan) (p : Plan) (ts : Tests A) → Pass ts → unless ts no_way p ≡ p
unfolding unless
unless_pass no_way p [] h = refl
unless_pass no_way p (t ∷ ts) h = rw h.0 (unless_pass no_way p ts h.1)

guard_good : (F : Type 0) (c : Core) (p : Plan) (ts : Tests ℕ) → (Pass ts → Good F c p) → Good F c (unless ts refuse p)
guard_good F c p ts h = unless_good F c refuse p ts (λ k. tt) h

within_good : (F : Type 0) (c : Core) (room : ℕ) (p : Plan) → Good F c p → Good F c (within room p)
unfolding within
within_good F c room p h = guard_good F c p _ (λ t. h)

pub pass_append : {A : Type 0} (xs ys : Tests A) → Pass (xs ++ ys) → Pass xs × Pass ys
pass_append [] ys h = (tt, h)
pass_append (x ∷ xs) ys h = let t = pass_append xs ys h.1 in ((h.0, t.0), t.1)

-- ---- accounts that exist

not_none : {A : Type 0} {x : A} → Some x ≡ None → ⊥
not_none e = let z : ◌≡◌ {A = ℕ} 0 1 = cc in omega arith

-- a slot that holds something is within the list
pub held_slot : {A : Type 0} (xs : List (Option A)) (s : ℕ) (y : A) → get_or xs s None ≡ Some y → s < length xs
held_slot [] s y h = absurd (not_none (sym h))
held_slot (x ∷ xs) zero y h = omega arith
held_slot (x ∷ xs) (suc s) y h = let t = held_slot xs s y h in omega arith

pub known_below : (t : List (Option Account)) (a : ℕ) → Known t (Some a) → a < length t
known_below t a h = go (get_or t a None) refl h
  where
    go : (o : Option Account) → get_or t a None ≡ o → is_some o ≡ true → a < length t
    go None e q = absurd (let z : ◌≡◌ {A = ℕ} 0 1 = cc in omega (arith, z))
    go (Some x) e q = held_slot t a x e

-- ---- what keeps the rest

module _ (t : List (Option Account)) (last : ℕ) where
  alike_rest : (xs : List (Option Session)) (r : Rest) → Alike r.sessions xs → RestOk t last r → RestOk t last (with_sessions xs r)
  alike_rest xs r e ok =
      record { sessions = alike_ok t e ok.sessions; buckets = ok.buckets; batch = ok.batch; delivered = ok.delivered; feed = ok.feed }

  update_rest : (s : ℕ) (f : Session → Session) → ((x : Session) → (f x).account ≡ x.account) → (r : Rest) → RestOk t last r → RestOk t last (update_session s f r)
  update_rest s f h r ok = alike_rest _ r (update_alike s f h r) ok

  emptied_rest : (s : ℕ) (r : Rest) → RestOk t last r → RestOk t last (without_session s r)
  emptied_rest s r ok =
      record { sessions = emptied_ok t r.sessions s ok.sessions; buckets = ok.buckets; batch = ok.batch; delivered = ok.delivered; feed = ok.feed }

  timed_rest : (now : ℕ) (r : Rest) → RestOk t last r → RestOk t last (at_time now r)
  timed_rest now r ok = record { sessions = ok.sessions; buckets = ok.buckets; batch = ok.batch; delivered = ok.delivered; feed = ok.feed }

  published_rest : (r : Rest) → RestOk t last r → RestOk t last (published r)
  published_rest r ok = record { sessions = ok.sessions; buckets = ok.buckets; batch = ok.batch; delivered = ok.delivered; feed = published_ok ok.feed }

-- stamping changes sessions alone
stamped_is : (ms : List Mail) (r : Rest) → stamped ms r ≡ with_sessions (stamped ms r).sessions r
stamped_is [] r = refl
stamped_is (send s m ∷ ms) r = stamped_is ms _
stamped_is (close s ∷ ms) r = stamped_is ms r

pub stamped_rest : (t : List (Option Account)) (last : ℕ) (ms : List Mail) (r : Rest) → RestOk t last r → RestOk t last (stamped ms r)
stamped_rest t last ms r ok = subst (RestOk t last) (sym (stamped_is ms r)) (alike_rest t last _ r (stamped_alike ms r) ok)

-- ---- numbering

-- a command that places nothing leaves the holds
no_more : (c : Core) (n : ℕ) (k : Command) → order_of k ≡ None → CoreOk c → fits_after (command n k) c ≡ true
unfolding step holds_fit
no_more c n k e ok =
    ap (λ x. wallets_fit c.ledger.fee 0 c.ledger.wallets (c.ledger.orders ++ placed 0 n (owner_of k) x)) e
    ∙ ap (wallets_fit c.ledger.fee 0 c.ledger.wallets) (append-nil c.ledger.orders) ∙ ok.holds

-- the next command passes replay's checks
next_passes : (c : Core) (k : Command) → own_number (next c) k ≡ true → owner_below (length c.accounts) k ≡ true → ltb (length c.flights) most_in_flight ≡ true →
    not (places k) || ltb (length c.ledger.orders) most_orders ≡ true → fits_after (command (next c) k) c ≡ true → Pass (tests (command (next c) k) c)
unfolding tests
next_passes c k o w f l t = (eq-eqb (next c) (next c) refl, (o, (w, (f, (l, (t, tt))))))

queued_ok : (t : List (Option Account)) (last : ℕ) (k : Command) (r : Rest) → ltb (length r.batch) most_in_batch ≡ true → RestOk t last r → RestOk t last (queued k r)
queued_ok t last k r h ok =
    record {
      sessions = ok.sessions;
      buckets = ok.buckets;
      batch = rw length-append (omega (arith, ltb-true (length r.batch) most_in_batch h));
      delivered = ok.delivered;
      feed = ok.feed;
    }

-- a command that places nothing, numbered where there is room
numbered_good : (F : Type 0) {A : Type 0} (x : A) (s : Option ℕ) (k : Command) (c : Core) (r : Rest) → order_of k ≡ None → own_number (next c) k ≡ true →
    owner_below (length c.accounts) k ≡ true → CommandFits k → CoreOk c → RestOk c.accounts c.ledger.last r →
    Pass (can_number x c r) → Good F c (numbered s k c r)
numbered_good F x s k c r e o w f ok rok t = (
  next_passes c k o w t.0 (rw e refl) (no_more c (next c) k e ok),
  ((λ u. (omega arith, (ltb-true (next c) modulus t.1.1.0, f))), queued_ok _ _ k r t.1.0 rok),
)

-- ---- receiving

token_ok : (a : ℕ) (c : Core) (r : Rest) → RestOk c.accounts c.ledger.last r →
    RestOk c.accounts c.ledger.last (with_buckets (set r.buckets a (taken a c r).bucket) r)
token_ok a c r ok =
    record { sessions = ok.sessions; buckets = rw length-set ok.buckets; batch = ok.batch; delivered = ok.delivered; feed = ok.feed }

with_token_good : (F : Type 0) (s a ref : ℕ) (c : Core) (r : Rest) (enter : Rest → Plan) → RestOk c.accounts c.ledger.last r →
    ((q : Rest) → RestOk c.accounts c.ledger.last q → Good F c (enter q)) → Good F c (with_token s a ref c r enter)
with_token_good F s a ref c r enter ok h =
    let after = with_buckets (set r.buckets a (taken a c r).bucket) r in
    unless_good F c (reject s ref after) (enter after) _ (λ k. token_ok a c r ok) (λ t. h after (token_ok a c r ok))

kind_own : (n a : ℕ) (s : Side) (q : ℕ) (k : OrderKind) → own_number n (command_of n a s q k) ≡ true
unfolding own_number
kind_own n a s q (Kind.Limit p t d) = eq-eqb n n refl
kind_own n a s q Kind.Market = eq-eqb n n refl
kind_own n a s q (Kind.Stop t l) = eq-eqb n n refl

kind_owner : (limit n a : ℕ) (s : Side) (q : ℕ) (k : OrderKind) → ltb a limit ≡ true → owner_below limit (command_of n a s q k) ≡ true
unfolding owner_below
kind_owner limit n a s q (Kind.Limit p t d) h = h
kind_owner limit n a s q Kind.Market h = h
kind_owner limit n a s q (Kind.Stop t l) h = h

kind_fits : (n a : ℕ) (s : Side) (q : ℕ) (k : OrderKind) → Unsigned q → KindFits k → CommandFits (command_of n a s q k)
kind_fits n a s q (Kind.Limit p t d) h f = (f, h)
kind_fits n a s q Kind.Market h f = h
kind_fits n a s q (Kind.Stop t l) h f = (f, h)

or_true : (b : Bool) (x : Bool) → x ≡ true → b || x ≡ true
or_true true x h = refl
or_true false x h = h

noticed_ok : (t : List (Option Account)) (last : ℕ) (ns : List ℕ) (r : Rest) → leb (length (r.notices ++ ns)) most_notices ≡ true → RestOk t last r → RestOk t last (noticing ns r)
noticed_ok t last ns r h ok =
    record {
      sessions = ok.sessions;
      buckets = ok.buckets;
      batch = ok.batch;
      delivered = ok.delivered;
      feed = record { ascending = ok.feed.ascending; fit = ok.feed.fit; few = ok.feed.few; few_trades = ok.feed.few_trades; few_notices = leb-true _ most_notices h };
    }

enter_new_good : (F : Type 0) (s a : ℕ) (o : NewOrder) (c : Core) (r : Rest) → (F → InboundFits (In.NewOrder o)) → a < length c.accounts → CoreOk c →
    RestOk c.accounts c.ledger.last r → Good F c (enter_new s a o c r)
enter_new_good F s a o c r f l ok rok =
    let k = command_of (next c) a o.side o.qty o.kind in
    unless_good F c (reject s o.client_ref r) _ (new_tests a o k c r) (λ w. rok)
    (λ t.
    let u = (pass_append (option [] (paper_tests a o.side o.qty c r o.kind) (wallet_at a c)) _ t.1).1 in
    let v = u.1.1.1 in (
      next_passes c k (kind_own (next c) a o.side o.qty o.kind) (kind_owner _ (next c) a o.side o.qty o.kind (lt-ltb a _ l)) u.0
          (or_true (not (places k)) _ v.0) v.1.1.0,
      (
        (λ w. ((f w).0, (ltb-true (next c) modulus u.1.1.0, kind_fits (next c) a o.side o.qty o.kind (f w).1.0 (f w).1.1))),
        queued_ok _ _ k _ u.1.0 (noticed_ok _ _ (new_notice c.ledger.fee a o (wallet_at a c)) r v.1.0 rok),
      ),
    ))

ended_ok : (t : List (Option Account)) (last s : ℕ) (r : Rest) → RestOk t last r → RestOk t last (update_session s set_closing r)
ended_ok t last s r ok = update_rest t last s set_closing (λ x. refl) r ok

-- a wallet's modify is not allowed
abbrev may_modify : ℕ → Core → Tests RejectCode
may_modify a c = (NotAllowed, not (is_some (wallet_at a c))) ∷ []

enter_other_good : (F : Type 0) (s : ℕ) (own : Tests RejectCode) (k : Command) (c : Core) (r : Rest) → order_of k ≡ None → own_number (next c) k ≡ true →
    owner_below (length c.accounts) k ≡ true → CommandFits k → CoreOk c → RestOk c.accounts c.ledger.last r → Good F c (enter_other s own k c r)
enter_other_good F s own k c r e o w f ok rok =
    unless_good F c (reject s 0 r) (numbered (Some s) k c r) (own ++ can_number Unavailable c r) (λ x. rok)
    (λ t. numbered_good F Unavailable (Some s) k c r e o w f ok rok (pass_append own (can_number Unavailable c r) t).1)

hear_good : (F : Type 0) (s a : ℕ) (m : Inbound) (c : Core) (r : Rest) → (F → InboundFits m) → a < length c.accounts → CoreOk c → RestOk c.accounts c.ledger.last r →
    Good F c (hear s a m c r)
unfolding hear order_of own_number owner_below
hear_good F s a (In.Login version b token) c r f l ok rok = rok
hear_good F s a In.Logout c r f l ok rok = ended_ok _ _ s r rok
hear_good F s a In.Heartbeat c r f l ok rok = rok
hear_good F s a In.Subscribe c r f l ok rok = update_rest _ _ s set_subscribed (λ x. refl) (published r) (published_rest _ _ r rok)
hear_good F s a (In.NewOrder o) c r f l ok rok = with_token_good F s a o.client_ref c r (enter_new s a o c) rok (λ q qok. enter_new_good F s a o c q f l ok qok)
hear_good F s a (In.Cancel i) c r f l ok rok =
    with_token_good F s a 0 c r (enter_other s [] (Cancel i a) c) rok (λ q qok. enter_other_good F s [] (Cancel i a) c q refl refl (lt-ltb a _ l) tt ok qok)
hear_good F s a (In.Modify i p n) c r f l ok rok =
    with_token_good F s a 0 c r (enter_other s (may_modify a c) (Modify i a p n) c) rok
    (λ q qok. enter_other_good F s (may_modify a c) (Modify i a p n) c q refl refl (lt-ltb a _ l) tt ok qok)
hear_good F s a In.MassCancel c r f l ok rok =
    with_token_good F s a 0 c r (enter_other s [] (CancelAll a) c) rok (λ q qok. enter_other_good F s [] (CancelAll a) c q refl refl (lt-ltb a _ l) tt ok qok)

-- ---- logging in

token_held : (t : ℕ) (o : Option Account) → token_is t o ≡ true → (a : Account) × (o ≡ Some a)
token_held t None h = absurd (let z : ◌≡◌ {A = ℕ} 0 1 = cc in omega (arith, z))
token_held t (Some a) h = (a, refl)

not_some : (b : Bool) → not b ≡ true → b ≡ false
not_some true h = sym h
not_some false h = refl

logged_in_good : (F : Type 0) (s a : ℕ) (y : Session) (c : Core) (r : Rest) → session_at s r ≡ Some y → Known c.accounts (Some a) → is_some (session_of a r) ≡ false →
    RestOk c.accounts c.ledger.last r → Good F c (logged_in s a c r)
logged_in_good F s a y c r e l n ok =
    record {
      sessions =
          taken_ok _ a s r.sessions _ (ap (λ o. account_of (option_map (set_account a) o)) e) l (held_slot r.sessions s y e) (nobody a 0 r.sessions n) ok.sessions;
      buckets = ok.buckets;
      batch = ok.batch;
      delivered = ok.delivered;
      feed = ok.feed;
    }

greet_good : (F : Type 0) (s : ℕ) (y : Session) (m : Inbound) (c : Core) (r : Rest) → session_at s r ≡ Some y → RestOk c.accounts c.ledger.last r → Good F c (greet s m c r)
unfolding greet
greet_good F s y (In.Login version a token) c r e ok =
    unless_good F c _ (logged_in s a c r) (login_tests version a token c r) (λ why. ended_ok _ _ s r ok)
    (λ t.
    let h = token_held token (account_at a c) t.1.0 in
    logged_in_good F s a y c r e (ap is_some h.1) (not_some _ t.1.1.0) ok)
greet_good F s y In.Logout c r e ok = ended_ok _ _ s r ok
greet_good F s y In.Heartbeat c r e ok = ended_ok _ _ s r ok
greet_good F s y (In.NewOrder o) c r e ok = ended_ok _ _ s r ok
greet_good F s y (In.Cancel i) c r e ok = ended_ok _ _ s r ok
greet_good F s y (In.Modify i p q) c r e ok = ended_ok _ _ s r ok
greet_good F s y In.MassCancel c r e ok = ended_ok _ _ s r ok
greet_good F s y In.Subscribe c r e ok = ended_ok _ _ s r ok

present_some : (x : Option Session) → is_present x ≡ true → (y : Session) × (x ≡ Some y)
present_some None h = absurd (let z : ◌≡◌ {A = ℕ} 0 1 = cc in omega (arith, z))
present_some (Some y) h = (y, refl)

-- updating a session that is there leaves one there
updated_there : (s : ℕ) (y : Session) (f : Session → Session) (r : Rest) → session_at s r ≡ Some y → session_at s (update_session s f r) ≡ Some (f y)
updated_there s y f r e = get_or-set_same r.sessions s _ None (held_slot r.sessions s y e) ∙ ap (option_map f) e

heard_good : (F : Type 0) (s : ℕ) (y : Session) (m : Inbound) (c : Core) (r : Rest) (a : Option ℕ) → (F → InboundFits m) → session_at s r ≡ Some y → Known c.accounts a →
    CoreOk c → RestOk c.accounts c.ledger.last r → Good F c (option (greet s m c r) (λ b. hear s b m c r) a)
heard_good F s y m c r None f e l ok rok = greet_good F s y m c r e rok
heard_good F s y m c r (Some a) f e l ok rok = hear_good F s a m c r f (known_below c.accounts a l) ok rok

receive_good : (F : Type 0) (s : ℕ) (m : Inbound) (c : Core) (r : Rest) → (F → InboundFits m) → CoreOk c → RestOk c.accounts c.ledger.last r → Good F c (receive s m c r)
unfolding receive
receive_good F s m c r f ok rok =
    let after = update_session s (set_received r.clock) r in
    split (λ b. (is_present (session_at s r) ≡ b) → Good F c (cond b (option (greet s m c after) (λ a. hear s a m c after) (account_of (session_at s r))) (sends [] r))) (is_present (session_at s r))
    (λ _ e.
    let y = present_some (session_at s r) e in
    heard_good F s (set_received r.clock y.0) m c after (account_of (session_at s r)) f (updated_there s y.0 (set_received r.clock) r y.1)
    (rok.sessions.known s) ok (update_rest _ _ s (set_received r.clock) (λ x. refl) r rok))
    (λ _ e. rok) refl

-- ---- delivering

first_upto : (last n : ℕ) (fs : List Flight) → Runs last fs → is_first n fs ≡ true → n ≤ last
first_upto last n [] h e = absurd (let z : ◌≡◌ {A = ℕ} 0 1 = cc in omega (arith, z))
first_upto last n (f ∷ fs) h e = let q = eqb-true f.number n e in omega (arith, h.0)

below_runs : (last n : ℕ) (fs : List Flight) → Runs last fs → is_first n (drop_below n fs) ≡ true → n ≤ last
below_runs last n fs h e = first_upto last n (drop_below n fs) (runs_below last n fs h) e

event_passes : (n : ℕ) (e : Event) (c : Core) → Pass (event_tests n e c) → fits_after (event n e) c ≡ true → Pass (tests (event n e) c)
unfolding tests
event_passes n e c t h = (t.0, (t.1.0, (t.1.1.0, (h, tt))))

deliver_good : (F : Type 0) (n : ℕ) (e : Event) (c : Core) (r : Rest) → (F → EventFits e) → CoreOk c → RestOk c.accounts c.ledger.last r → Pass (deliver_tests n e c r) → Good F c (deliver n e c r)
deliver_good F n e c r f ok rok t =
    let u = pass_append (event_tests n e c) (feed_tests n e c r) t in
    let v = u.1 in (
      event_passes n e c u.0 v.1.0,
      (
        (λ u. (omega arith, f u)),
        record {
          sessions = rok.sessions;
          buckets = rok.buckets;
          batch = rok.batch;
          delivered = below_runs c.ledger.last n c.flights ok.runs t.0;
          feed = record {
            ascending = apply_rises e r.depth v.0 rok.feed.ascending;
            fit = v.1.1.0;
            few = v.1.1.1.0;
            few_trades = leb-true _ most_trades v.1.1.1.1.0;
            few_notices = leb-true _ most_notices v.1.1.1.1.1.0;
          };
        },
      ),
    )

-- ---- the other calls

gone_good : (F : Type 0) (a : Option ℕ) (c : Core) (r : Rest) → Known c.accounts a → CoreOk c → RestOk c.accounts c.ledger.last r → Good F c (gone a c r)
unfolding order_of own_number owner_below
gone_good F None c r l ok rok = rok
gone_good F (Some a) c r l ok rok =
    guard_good F c (numbered None (CancelAll a) c r) (can_number full c r) (λ t. numbered_good F full None (CancelAll a) c r refl refl (lt-ltb a _ (known_below c.accounts a l)) tt ok rok t)

pub listed_few : (xs : List Listed) (m : ℕ) → length xs ≡ m → m ≤ most_orders → levels_few (listed_depth xs).resting ≡ true → depth_few (listed_depth xs) ≡ true
unfolding depth_few
listed_few xs m e h t =
    (and-eq-true_iff (leb (length (listed_depth xs).resting) most_orders) _).1
    (le-leb (length (listed_depth xs).resting) most_orders (omega (arith, resting_length xs)), (and-eq-true_iff (levels_few (listed_depth xs).resting) true).1 (t, refl))

finished_ok : (xs : List Listed) (c : Core) (r : Rest) → CoreOk c → RestOk c.accounts c.ledger.last r → Pass (finish_tests xs c) →
    RestOk c.accounts c.ledger.last (finished xs c r)
finished_ok xs c r ok rok t =
    let d = agrees_distinct xs c.ledger.orders t.0 in
    record {
      sessions = rok.sessions;
      buckets = rok.buckets;
      batch = rok.batch;
      delivered = omega arith;
      feed = record { ascending = resting_rises xs d.0; fit = t.1.1.0; few = listed_few xs _ d.1 ok.few t.1.0; few_trades = omega arith; few_notices = omega arith };
    }

one_of : (F : Type 0) (c : Core) (b : Bool) (p q : Plan) → Good F c p → Good F c q → Good F c (cond b p q)
one_of F c true p q g h = g
one_of F c false p q g h = h

replayed_first : (n : ℕ) (e : Event) (c : Core) → Pass (tests (event n e) c) → is_first n (drop_below n c.flights) ≡ true
unfolding tests
replayed_first n e c t = t.0

pub plan_good : (F : Type 0) (c : Core) (r : Rest) (x : Call) → (F → CallFits x) → CoreOk c → RestOk c.accounts c.ledger.last r → Good F c (plan c r x)
unfolding plan
plan_good F c r (add_account a) f ok rok =
    guard_good F c (records system (account a) [] (joined a r)) (tests (account a) c)
    (λ t. (t, ((λ u. (omega arith, f u)), record { sessions = rok.sessions; buckets = rw length-set rok.buckets; batch = rok.batch; delivered = rok.delivered; feed = rok.feed })))
plan_good F c r (connect s t) f ok rok =
    guard_good F c (sends [] (at_time t (with_sessions (set r.sessions s (Some (fresh_session t))) r))) _
    (λ u. timed_rest _ _ t _ (alike_rest _ _ _ r (set_alike r.sessions s (Some (fresh_session t)) (empty_slot (session_at s r) u.1.0)) rok))
  where
    empty_slot : (x : Option Session) → not (is_some x) ≡ true → None ≡ account_of x
    empty_slot None h = refl
    empty_slot (Some x) h = absurd (let z : ◌≡◌ {A = ℕ} 0 1 = cc in omega (arith, z))
plan_good F c r (set_paper_collar p) f ok rok =
    record { sessions = rok.sessions; buckets = rok.buckets; batch = rok.batch; delivered = rok.delivered; feed = rok.feed }
plan_good F c r (wallet a) f ok rok = rok
plan_good F c r last_seq f ok rok = rok
plan_good F c r (depth_levels s room) f ok rok = guard_good F c _ _ (λ t. rok)
plan_good F c r (receive_from s m t room) f ok rok = within_good F c room (receive s m c (at_time t r)) (receive_good F s m c (at_time t r) f ok (timed_rest _ _ t r rok))
plan_good F c r (tick t room) f ok rok =
    within_good F c room (ticked (at_time t r)) (alike_rest _ _ _ (at_time t r) (closed_alike (is_idle (at_time t r)) r.sessions) (timed_rest _ _ t r rok))
plan_good F c r (publish room) f ok rok = within_good F c room _ (published_rest _ _ r rok)
plan_good F c r (end_session s why room) f ok rok =
    within_good F c room _ (one_of F c (is_present (session_at s r)) (ended s (Out.Logout why) r) (sends [] r) (ended_ok _ _ s r rok) rok)
plan_good F c r (shut_down room) f ok rok = within_good F c room (all_ended r) (alike_rest _ _ _ r (closed_alike (λ x. true) r.sessions) rok)
plan_good F c r (disconnect s) f ok rok = gone_good F (account_of (session_at s r)) c (without_session s r) (rok.sessions.known s) ok (emptied_rest _ _ s r rok)
plan_good F c r (detach s) f ok rok = emptied_rest _ _ s r rok
plan_good F c r (take_batch room) f ok rok =
    guard_good F c _ _ (λ t. record { sessions = rok.sessions; buckets = rok.buckets; batch = omega arith; delivered = rok.delivered; feed = rok.feed })
plan_good F c r (deliver_event n e room) f ok rok =
    guard_good F c (within room (deliver n e c r)) (deliver_tests n e c r) (λ t. within_good F c room (deliver n e c r) (deliver_good F n e c r f ok rok t))
plan_good F c r (replay_command n k) f ok rok = guard_good F c (records system (command n k) [] r) (replay_tests (command n k) c r) (λ t. (t.1, ((λ u. (omega arith, f u)), rok)))
plan_good F c r (replay_event n e) f ok rok =
    guard_good F c (records system (event n e) [] (with_delivered n r)) (replay_tests (event n e) c r)
    (λ t. (
      t.1,
      (
        (λ u. (omega arith, f u)),
        record {
          sessions = rok.sessions;
          buckets = rok.buckets;
          batch = rok.batch;
          delivered = below_runs c.ledger.last n c.flights ok.runs (replayed_first n e c t.1);
          feed = rok.feed;
        },
      ),
    ))
plan_good F c r (finish xs) f ok rok = guard_good F c (sends [] (finished xs c r)) (finish_tests xs c) (λ t. finished_ok xs c r ok rok t)
plan_good F c r (checkpoint room) f ok rok = guard_good F c _ _ (λ t. rok)
