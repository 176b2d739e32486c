-- What is claimed of the definitions beyond what they say: each end theorem as a type, with 01 or the order of 02 that asks for it. `claims` in src/lib.rt has a
-- proof of all of them; docs/REVIEW.md lists them.
use Rattle.std.specs.Prelude.{ℕ, ◌+◌, ◌≤◌, ◌<◌, Bool, true, false, cond, ◌&&◌, ◌≡◌, ◌⊎◌, List, [], ◌∷◌, ◌++◌, map, ℤ, pos, ◌+ℤ◌, ◌-ℤ◌, ◌*ℤ◌, length, get_or, set, eqb, Option, Some, None, option_map, unwrap_or}
use Rattle.std.specs.Int.Signed.{le_z}
use Rattle.orderbook.specs.declared.Side.{Side}
use Rattle.orderbook.specs.declared.Side.TheVariants.{Buy, Sell}
use Rattle.orderbook.specs.declared.Command.TheVariants.{Cancel, Modify, CancelAll}
use Rattle.orderbook.specs.declared.Event.TheVariants.{Rejected, Trade}
use Rattle.orderbook.specs.declared.RejectReason.{RejectReason}
use Rattle.orderbook.specs.declared.Listed.{Listed}
use Rattle.protocol.specs.declared.Inbound.{Inbound}
use Rattle.protocol.specs.declared.Inbound.TheVariants as In
use Rattle.protocol.specs.declared.NewOrder.{NewOrder}
use Rattle.protocol.specs.declared.Outbound.TheVariants as Out
use Rattle.protocol.specs.declared.RejectCode.TheVariants.{TooManyOrders, Unavailable}
use Rattle.accounts.specs.declared.Account.{Account}
use Rattle.accounts.specs.declared.Funds.{Funds}
use Rattle.accounts.specs.declared.Timing.{Timing}
use Rattle.words.specs.Words.{fit, most, modulus}
use Rattle.wallet.specs.Wallet as W
use Rattle.table.specs.Live.{Each}
use Rattle.gateway.specs.Basics.{option}
use Rattle.gateway.specs.Limits.{most_in_flight, full, not_quiet}
use Rattle.gateway.specs.Ledger.{Order, Ledger, Item, command, event, Change, find, fill, retire, changes, changed, pay, same_side, wallet_of, hold, order_hold, held, open_of, fits}
use Rattle.gateway.specs.Saved.{Saved, contents}
use Rattle.gateway.specs.Bytes.{encode, decode}
use Rattle.gateway.specs.Core.{Pass, Origin, Core, drop_below, first_places, account_at, tests, core_step}
use Rattle.gateway.specs.Depth.{Resting, Level, better, levels}
use Rattle.gateway.specs.Rest.{Session, Mail, send, Rest, at_time, with_buckets, session_at, update_session, set_received}
use Rattle.gateway.specs.Entry.{Answer, bytes, refuse, quiet, records, wallet_at, next, queued, numbered, command_of, most_open, taken, enter_new, reject, hear, level_to, snapshot, balance_with, covered}
use Rattle.gateway.specs.Deliver.{notices_of, hold_after}
use Rattle.gateway.specs.Calls.{Gateway, Call, receive_from, checkpoint, plan, done, call}
use Rattle.gateway.specs.Start.{Started, started, begin, empty_depth, charging, set_up, restore}
use Rattle.gateway.specs.Fits.{Unsigned, AccountsFit, ListingFits, CallFits, CallsFit, Bytes}
use Rattle.gateway.specs.Invariant.{CoreOk, GatewayOk}
use Rattle.gateway.specs.Restart.{next_of, added, final, record_of, all_later, Restarts}
use Rattle.gateway.specs.Examples.{Examples}
use Rattle.gateway.specs.FromRust.{FromRust}

-- ---- the invariant, which the claims below ask for

-- Set-up and restore begin with the invariant, and every call keeps it.
pub record Lasting : Type 0 where
  pub set_up_ok : (fee : ℤ) (limit last : ℕ) (l : List Account) (listing : List Listed) (timing : Timing) (g : Gateway) → Unsigned last → AccountsFit l → ListingFits listing →
      set_up fee limit last l listing timing ≡ started g → GatewayOk g
  pub restore_ok : (fee : ℤ) (limit : ℕ) (l : List Account) (timing : Timing) (bs : List ℕ) (g : Gateway) → AccountsFit l → Bytes bs → restore fee limit l timing bs ≡ started g → GatewayOk g
  pub call_ok : (g : Gateway) (x : Call) → CallFits x → GatewayOk g → GatewayOk (next_of g (call g x))

-- ---- restart (01, Restart: demand 3)

-- of a list of calls that begins with g: every accepted checkpoint in it, and all that follows it up to any moment
pub record Demand3 (fee : ℤ) (limit : ℕ) (l : List Account) (g : Gateway) : Type 0 where
  pub restarts : (timing : Timing) (xs ys : List Call) (room : ℕ) (bs : List ℕ) (h : Gateway) → CallsFit xs → CallsFit ys →
      call (final g xs) (checkpoint room) ≡ done (bytes bs) [] [] h →
      all_later (final g xs).core.ledger.last (record_of (final g xs) ys) →
      Restarts fee limit (l ++ added (record_of g xs)) timing (final g xs).core.ledger.last bs (record_of (final g xs) ys) (final g (xs ++ (checkpoint room ∷ ys)))

-- A restart loses nothing but client references, whatever calls came before and after the checkpoint, from set-up and from restore.
pub record RestartsFromAny : Type 0 where
  pub after_set_up : (fee : ℤ) (limit last : ℕ) (l : List Account) (listing : List Listed) (timing : Timing) (g : Gateway) → Unsigned last → AccountsFit l → ListingFits listing →
      set_up fee limit last l listing timing ≡ started g → Demand3 fee limit l g
  pub after_restore : (fee : ℤ) (limit : ℕ) (l : List Account) (timing : Timing) (bs : List ℕ) (g : Gateway) → AccountsFit l → Bytes bs →
      restore fee limit l timing bs ≡ started g → Demand3 fee limit l g

-- ---- refusals of the engine (01, Restart: the ledger sees no gateway)

-- the Rust ends the order i of a refused command n where the command in flight places one; the ledger, where the event names the command's own number
abbrev pub rust_changes : Core → ℕ → ℕ → List Change
rust_changes c n i = cond (first_places (drop_below n c.flights)) (retire i ∷ []) []

-- whatever calls came before, an accepted refusal changes the ledger, and notices wallets, by either rule alike
abbrev pub RefusesAsRust : Gateway → Type 0
RefusesAsRust g = (xs : List Call) (x : Call) (a : Answer) (n i : ℕ) (why : RejectReason) (ms : List Mail) (h : Gateway) → CallsFit xs →
    call (final g xs) x ≡ done a (event n (Rejected i why) ∷ []) ms h →
    (let c = (final g xs).core in
    (h.core.ledger ≡ changed (rust_changes c n i) c.ledger) × (notices_of (changes n (Rejected i why)) c.ledger ≡ notices_of (rust_changes c n i) c.ledger))

-- A refusal means to the gateway what it means to the Rust, from set-up and from restore: no order of somebody else ends on a refused cancel.
pub record Refuses : Type 0 where
  pub from_set_up : (fee : ℤ) (limit last : ℕ) (l : List Account) (listing : List Listed) (timing : Timing) (g : Gateway) → Unsigned last → AccountsFit l → ListingFits listing →
      set_up fee limit last l listing timing ≡ started g → RefusesAsRust g
  pub from_restore : (fee : ℤ) (limit : ℕ) (l : List Account) (timing : Timing) (bs : List ℕ) (g : Gateway) → AccountsFit l → Bytes bs →
      restore fee limit l timing bs ≡ started g → RefusesAsRust g

-- ---- checkpoint bytes (01, Checkpoint bytes)

-- What is written is read back; bytes that are read are those written for what they hold; each is a byte, and there are at most 43,033.
pub record ReadsBack : Type 0 where
  pub back : (c : Core) → CoreOk c → decode (encode (contents c.ledger)) ≡ Some (contents c.ledger)
  pub only : (xs : List ℕ) (s : Saved) → Bytes xs → decode xs ≡ Some s → encode s ≡ xs
  pub bytes : (s : Saved) → Bytes (encode s)
  pub short : (c : Core) → CoreOk c → length (encode (contents c.ledger)) ≤ 43033

-- ---- settling (01, Hold; What a reviewer will try, 3 and 4)

-- what the account's orders of the side hold more, where the order w is changed by x
abbrev pub hold_move : ℤ → ℕ → Side → Change → Option Order → ℤ
hold_move fee a z x w = option (pos 0) (λ o. cond (eqb o.account a && same_side z o.side) (hold_after fee x o -ℤ order_hold fee o) (pos 0)) w

-- c before and d after a trade of q at p between the two orders, with so much left of each: both accounts are paid, the taker's first, and what they hold moves
-- by each order's new hold less the old, in which the trade's price has no part
pub record Settles (c d : Ledger) (taker maker : ℕ) (p : ℤ) (q tl ml : ℕ) : Type 0 where
  pub wallets : d.wallets ≡ pay c.fee p q (find maker c.orders) (pay c.fee p q (find taker c.orders) c.wallets)
  pub fee : d.fee ≡ c.fee
  pub holds : (a : ℕ) (s : Side) → held c.fee a s d.orders ≡ held c.fee a s c.orders +ℤ hold_move c.fee a s (fill taker p q tl) (find taker c.orders) +ℤ hold_move c.fee a s (fill maker p q ml) (find maker c.orders)

-- a buy's amount and seats, and a sell's
abbrev pub exactly : Side → ℤ → ℤ → Funds → Funds
exactly Buy amount lots f = record { cash = f.cash -ℤ amount; position = f.position +ℤ lots }
exactly Sell amount lots f = record { cash = f.cash +ℤ amount; position = f.position -ℤ lots }

-- An accepted trade, delivered or replayed, settles: each side's account by its order's own side and charged price, every other account not at all, and
-- exactly where the numbers fit. So a gateway that only echoes reports, or releases a buy's hold at the trade's price, is not this one.
pub record Settling : Type 0 where
  pub settles : (from : Origin) (n t taker maker : ℕ) (s : Side) (p : ℤ) (q tl ml : ℕ) (c : Core) → CoreOk c → Pass (tests (event n (Trade t taker maker s p q tl ml)) c) →
      Settles c.ledger (core_step from (event n (Trade t taker maker s p q tl ml)) c).ledger taker maker p q tl ml
  pub one_side : (c d : Ledger) (taker maker : ℕ) (p : ℤ) (q tl ml : ℕ) → Settles c d taker maker p q tl ml → (i j : ℕ) → ((i ≡ taker) × (j ≡ maker)) ⊎ ((i ≡ maker) × (j ≡ taker)) →
      (o : Order) (w : Funds) → find i c.orders ≡ Some o → get_or c.wallets o.account None ≡ Some w → ((x : Order) → find j c.orders ≡ Some x → o.account ≡ x.account → ⊥) →
      get_or d.wallets o.account None ≡ Some (W.settle o.side (W.charged c.fee o.side p) q w)
  pub others : (c d : Ledger) (taker maker : ℕ) (p : ℤ) (q tl ml : ℕ) → Settles c d taker maker p q tl ml → (b : ℕ) →
      ((o : Order) → find taker c.orders ≡ Some o → b ≡ o.account → ⊥) → ((o : Order) → find maker c.orders ≡ Some o → b ≡ o.account → ⊥) →
      get_or d.wallets b None ≡ get_or c.wallets b None
  pub exact : (s : Side) (p : ℤ) (q : ℕ) (f : Funds) → fits (p *ℤ pos q) ≡ true → fits (pos q) ≡ true →
      fits (exactly s (p *ℤ pos q) (pos q) f).cash ≡ true → fits (exactly s (p *ℤ pos q) (pos q) f).position ≡ true → W.settle s p q f ≡ exactly s (p *ℤ pos q) (pos q) f
  pub own_hold : (fee : ℤ) (x : Change) (o : Order) → hold_move fee o.account o.side x (Some o) ≡ hold_after fee x o -ℤ order_hold fee o

-- ---- room (01, What a reviewer will try, 5 and 6)

-- every table is empty, but for under 256 commands in flight, a number is left, and all has been delivered
pub record Roomy (c : Core) (r : Rest) : Type 0 where
  pub flying : length c.flights < most_in_flight
  pub waiting : r.batch ≡ []
  pub number : next c < modulus
  pub orders : c.ledger.orders ≡ []
  pub resting : r.depth.resting ≡ []
  pub changed : r.depth.changed ≡ []
  pub trades : r.trades ≡ []
  pub notices : r.notices ≡ []
  pub delivered : r.delivered ≡ c.ledger.last

-- the rest once account a's token is taken
abbrev pub spent : ℕ → Core → Rest → Rest
spent a c r = with_buckets (set r.buckets a (taken a c r).bucket) r

-- account a has no wallet, a token, and an open limit above 0
pub record Member (a : ℕ) (c : Core) (r : Rest) : Type 0 where
  pub no_wallet : wallet_at a c ≡ None
  pub token : (taken a c r).passed ≡ true
  pub limit : 0 < most_open (account_at a c)

-- A start without orders has room. With room no call is full (5) or not quiet (10) and no message gets `Unavailable`; a member's new order, cancel, modify and
-- mass cancel are numbered, and nobody is sent anything. What is heard of an open session is what the call does.
pub record RoomServes : Type 0 where
  pub begins : (timing : Timing) (l : Ledger) (t : List (Option Account)) → l.orders ≡ [] → l.last + 1 < modulus → (let g = begin timing l t empty_depth [] in Roomy g.core g.rest)
  pub never_full : (c : Core) (r : Rest) (x : Call) → Roomy c r → (plan c r x ≡ refuse full → ⊥) × (plan c r x ≡ refuse not_quiet → ⊥)
  pub never_unavailable : (c : Core) (r : Rest) (s : ℕ) (m : Inbound) (t room : ℕ) → Roomy c r → (a : Answer) (z ref : ℕ) (q : Rest) →
      plan c r (receive_from s m t room) ≡ quiet a (send z (Out.Reject Unavailable ref) ∷ []) q → ⊥
  pub new : (s a : ℕ) (c : Core) (r : Rest) → Roomy c r → Member a c r → (o : NewOrder) → (let k = command_of (next c) a o.side o.qty o.kind in
      hear s a (In.NewOrder o) c r ≡ records (record { client_ref = o.client_ref; session = Some s }) (command (next c) k) [] (queued k (spent a c r)))
  pub cancel : (s a : ℕ) (c : Core) (r : Rest) → Roomy c r → Member a c r → (i : ℕ) → hear s a (In.Cancel i) c r ≡ numbered (Some s) (Cancel i a) c (spent a c r)
  pub modify : (s a : ℕ) (c : Core) (r : Rest) → Roomy c r → Member a c r → (i : ℕ) (p : ℤ) (q : ℕ) → hear s a (In.Modify i p q) c r ≡ numbered (Some s) (Modify i a p q) c (spent a c r)
  pub mass : (s a : ℕ) (c : Core) (r : Rest) → Roomy c r → Member a c r → hear s a In.MassCancel c r ≡ numbered (Some s) (CancelAll a) c (spent a c r)
  pub heard : (s a t room : ℕ) (x : Inbound) (y : Session) (c : Core) (r : Rest) (from : Origin) (i : Item) (q : Rest) → session_at s r ≡ Some y → y.account ≡ Some a → y.closing ≡ false →
      hear s a x c (update_session s (set_received t) (at_time t r)) ≡ records from i [] q → plan c r (receive_from s x t room) ≡ records from i [] q

-- ---- counts (01, What a reviewer will try, 7)

-- a sum over levels, and over the resting orders of a side
abbrev pub total : (Level → ℕ) → List Level → ℕ
total f [] = 0
total f (l ∷ ls) = f l + total f ls

abbrev pub sum : Side → (Resting → ℕ) → List Resting → ℕ
sum s g [] = 0
sum s g (o ∷ os) = cond (same_side s o.side) (g o + sum s g os) (sum s g os)

-- every level is better than all that follow
abbrev pub Best : Side → List Level → Type 0
Best s [] = Unit {0}
Best s (l ∷ ls) = Each (λ m. better s l.price m.price ≡ true) ls × Best s ls

abbrev pub level_mail : ℕ → Rest → List Mail
level_mail s r = map (level_to s r.delivered Buy) (levels Buy r.depth.resting) ++ map (level_to s r.delivered Sell) (levels Sell r.depth.resting)

-- Over the levels of a side, at any prices picked, orders and quantities add up to those of the orders that rest there, and no price comes twice; a snapshot's
-- number is that of the level messages that follow; `TooManyOrders` answers exactly where the account's live orders are at least its limit.
pub record Counts : Type 0 where
  pub orders : (at : ℤ → Bool) (s : Side) (os : List Resting) → total (λ l. cond (at l.price) l.orders 0) (levels s os) ≡ sum s (λ o. cond (at o.price) 1 0) os
  pub quantities : (at : ℤ → Bool) (s : Side) (os : List Resting) → total (λ l. cond (at l.price) l.qty 0) (levels s os) ≡ sum s (λ o. cond (at o.price) o.visible 0) os
  pub best : (s : Side) (os : List Resting) → Best s (levels s os)
  pub in_snapshot : (s : ℕ) (r : Rest) → snapshot s r ≡ send s (Out.BookSnapshot r.delivered (length (level_mail s r))) ∷ level_mail s r
  pub too_many : (s a : ℕ) (o : NewOrder) (c : Core) (r : Rest) → most_open (account_at a c) ≤ open_of a c.ledger.orders → enter_new s a o c r ≡ reject s o.client_ref r TooManyOrders
  pub not_too_many : (s a : ℕ) (o : NewOrder) (c : Core) (r q : Rest) → open_of a c.ledger.orders < most_open (account_at a c) →
      enter_new s a o c r ≡ reject s o.client_ref q TooManyOrders → ⊥

-- ---- the booking fee (02, order 7)

-- A buy holds (price + fee) × leaves, 0 where that does not fit; a fill takes (price + fee) × quantity from the buyer, 2^63 − 1 where that does not fit; sellers
-- are unaffected, and no event changes the fee.
pub record Charges : Type 0 where
  pub buy_holds : (fee p : ℤ) (v : ℕ) → hold fee Buy (Some p) v ≡ unwrap_or (fit ((p +ℤ fee) *ℤ pos v)) (pos 0)
  pub sell_holds : (fee : ℤ) (p : Option ℤ) (v : ℕ) → hold fee Sell p v ≡ W.held Sell p v
  pub buyer_pays : (fee p : ℤ) (q : ℕ) (f : Funds) → W.settle Buy (W.charged fee Buy p) q f ≡ W.bought (unwrap_or (fit ((p +ℤ fee) *ℤ pos q)) most) (W.lots q) f
  pub seller_is_paid : (fee p : ℤ) (q : ℕ) (f : Funds) → W.settle Sell (W.charged fee Sell p) q f ≡ W.settle Sell p q f
  pub stays : (xs : List Change) (l : Ledger) → (changed xs l).fee ≡ l.fee

-- what an account's orders of a side hold, without a fee
abbrev pub sum_was : ℕ → Side → List Order → ℤ
sum_was a s [] = pos 0
sum_was a s (o ∷ os) = cond (eqb o.account a && same_side s o.side) (W.held o.side o.price o.leaves) (pos 0) +ℤ sum_was a s os

-- With the fee 0 holds, settling, cover and a start are what they were without one.
pub record NoFee : Type 0 where
  pub held_was : (a : ℕ) (s : Side) (os : List Order) → held (pos 0) a s os ≡ sum_was a s os
  pub pay_was : (p : ℤ) (q : ℕ) (o : Option Order) (ws : List (Option Funds)) →
      pay (pos 0) p q o ws ≡ option ws (λ x. set ws x.account (option_map (W.settle x.side p q) (wallet_of ws x))) o
  pub covered_was : (s : Side) (p : ℤ) (q a : ℕ) (w : Funds) (os : List Order) →
      covered (pos 0) s p q a w os ≡ option false (λ h. le_z (pos 0) h && W.covers s h (balance_with (pos 0) a os w)) (W.hold_of s p q)
  pub start_was : (s : Started) → charging (pos 0) s ≡ s

-- ---- all of them

pub record Claims : Type 0 where
  pub lasting : Lasting
  pub restarts : RestartsFromAny
  pub refuses : Refuses
  pub reads_back : ReadsBack
  pub settling : Settling
  pub room_serves : RoomServes
  pub counts : Counts
  pub charges : Charges
  pub no_fee : NoFee
  -- lists of calls worked by hand, and random ones with what the published Rust made of them
  pub examples : Examples
  pub from_rust : FromRust
