-- Sessions and entry: what a received message does (`receive`, `login`, `enter`, `subscribe`, `publish` of exchange.rs).
use Rattle.std.specs.Prelude.{ℕ, ◌+◌, Bool, false, cond, not, ◌&&◌, List, [], ◌∷◌, ◌++◌, map, ℤ, pos, length, get_or, set, eqb, ltb, leb, Option, Some, None, option_map, is_some}
use Rattle.std.specs.Int.Signed.{le_z}
use Rattle.orderbook.specs.declared.Side.{Side}
use Rattle.orderbook.specs.declared.Side.TheVariants.{Buy, Sell}
use Rattle.orderbook.specs.declared.Command.{Command}
use Rattle.orderbook.specs.declared.Command.TheVariants.{Limit, Market, Cancel, Modify, Stop, CancelAll}
use Rattle.protocol.specs.declared.Inbound.{Inbound}
use Rattle.protocol.specs.declared.Inbound.TheVariants as In
use Rattle.protocol.specs.declared.NewOrder.{NewOrder}
use Rattle.protocol.specs.declared.OrderKind.{OrderKind}
use Rattle.protocol.specs.declared.OrderKind.TheVariants as Kind
use Rattle.protocol.specs.declared.Outbound.{Outbound}
use Rattle.protocol.specs.declared.Outbound.TheVariants as Out
use Rattle.protocol.specs.declared.Balance.{Balance}
use Rattle.protocol.specs.declared.LevelUpdate.{LevelUpdate}
use Rattle.protocol.specs.declared.ReportKind.TheVariants.{Rested}
use Rattle.protocol.specs.declared.LoginError.{LoginError}
use Rattle.protocol.specs.declared.LoginError.TheVariants.{UnsupportedVersion, BadCredentials, AlreadyLoggedIn, AlreadyInSession}
use Rattle.protocol.specs.declared.LogoutReason.TheVariants.{Requested, ProtocolError}
use Rattle.protocol.specs.declared.RejectCode.{RejectCode}
use Rattle.protocol.specs.declared.RejectCode.TheVariants.{TooManyOrders, Throttled, Unavailable, InsufficientFunds, NotAllowed, OffMarket}
use Rattle.accounts.specs.declared.Account.{Account}
use Rattle.accounts.specs.declared.Funds.{Funds}
use Rattle.gateway.specs.Basics.{option, each}
use Rattle.gateway.specs.Limits.{protocol_version, most_orders, most_in_flight, most_in_batch, most_notices}
use Rattle.wallet.specs.Wallet as W
use Rattle.risk.specs.declared.Bucket.{Bucket}
use Rattle.risk.specs.declared.Taken.{Taken}
use Rattle.risk.specs.Collar.{near_market}
use Rattle.risk.specs.Throttle as Throttle
use Rattle.gateway.specs.Ledger.{Order, Item, command, hold, held, open_of}
use Rattle.gateway.specs.Core.{Tests, Origin, Core, account_at, fits_after}
use Rattle.gateway.specs.Depth.{Depth, Level, level, levels}
use Rattle.gateway.specs.Rest.{Mail, send, close, Rest, with_buckets, with_batch, with_published, pending, session_at, is_open, is_present, is_subscribed, account_of, session_of, update_session, set_received, set_account, set_closing, set_subscribed, each_session}
use Rattle.words.specs.Words.{modulus}

-- ---- plans

-- what a call gives back beside its messages
pub data Answer : Type 0 where
  nothing : Answer
  account_was : Option ℕ → Answer
  wallet_is : Option Balance → Answer
  number_is : ℕ → Answer
  levels_are : List Level → Answer
  commands : List Command → Answer
  bytes : List ℕ → Answer

-- a call is refused with a code; or answers, sends and leaves a new rest; or does so with one item for the record
pub data Plan : Type 0 where
  refuse : ℕ → Plan
  quiet : Answer → List Mail → Rest → Plan
  records : Origin → Item → List Mail → Rest → Plan

-- the first test that fails says what happens; where all pass, p does
unfoldable pub unless : {A : Type 0} → Tests A → (A → Plan) → Plan → Plan
unless [] no_way p = p
unless (t ∷ ts) no_way p = cond t.1 (unless ts no_way p) (no_way t.0)

abbrev pub sends : List Mail → Rest → Plan
sends ms r = quiet nothing ms r

-- ---- accounts

abbrev pub wallet_at : ℕ → Core → Option Funds
wallet_at a c = get_or c.ledger.wallets a None

abbrev pub balance_with : ℤ → ℕ → List Order → Funds → Balance
balance_with fee a os w = record { cash = w.cash; position = w.position; cash_held = held fee a Buy os; position_held = held fee a Sell os }

abbrev pub balance : ℕ → Core → Option Balance
balance a c = option_map (balance_with c.ledger.fee a c.ledger.orders) (wallet_at a c)

-- ---- ending a session

abbrev pub ended : ℕ → Outbound → Rest → Plan
ended s m r = sends (send s m ∷ close s ∷ []) (update_session s set_closing r)

-- ---- login

abbrev pub token_is : ℕ → Option Account → Bool
token_is t a = option false (λ x. eqb x.token t) a

abbrev pub login_tests : ℕ → ℕ → ℕ → Core → Rest → Tests LoginError
login_tests version a token c r =
    (UnsupportedVersion, eqb version protocol_version)
    ∷ (BadCredentials, token_is token (account_at a c))
    ∷ (AlreadyLoggedIn, not (is_some (session_of a r)))
    ∷ []

abbrev pub balance_to : ℕ → Option Balance → List Mail
balance_to s b = option [] (λ x. send s (Out.Balance x) ∷ []) b

-- an open order is told as if it had just rested
abbrev pub rested : ℕ → ℕ → Order → ℤ → Mail
rested s last o p =
    send s (Out.Report (record { seq = last; order_id = o.number; client_ref = o.client_ref; kind = Rested o.side p o.leaves o.leaves }))

-- account a's orders that have a price and are numbered at most the delivered number
abbrev pub open_order : ℕ → ℕ → ℕ → ℕ → Order → List Mail
open_order s a last delivered o =
    cond (eqb o.account a && leb o.number delivered) (option [] (λ p. rested s last o p ∷ []) o.price) []

abbrev pub logged_in : ℕ → ℕ → Core → Rest → Plan
logged_in s a c r =
    sends
    ((send s (Out.LoginAccepted a c.ledger.last) ∷ balance_to s (balance a c)) ++ each (open_order s a c.ledger.last r.delivered) c.ledger.orders)
    (update_session s (set_account a) r)

-- the first message of a session must be a login
unfoldable pub greet : ℕ → Inbound → Core → Rest → Plan
greet s (In.Login version a token) c r = unless (login_tests version a token c r) (λ why. ended s (Out.LoginRejected why) r) (logged_in s a c r)
greet s In.Logout c r = ended s (Out.Logout ProtocolError) r
greet s In.Heartbeat c r = ended s (Out.Logout ProtocolError) r
greet s (In.NewOrder o) c r = ended s (Out.Logout ProtocolError) r
greet s (In.Cancel i) c r = ended s (Out.Logout ProtocolError) r
greet s (In.Modify i p q) c r = ended s (Out.Logout ProtocolError) r
greet s In.MassCancel c r = ended s (Out.Logout ProtocolError) r
greet s In.Subscribe c r = ended s (Out.Logout ProtocolError) r

-- ---- order entry

abbrev pub reject : ℕ → ℕ → Rest → RejectCode → Plan
reject s ref r why = sends (send s (Out.Reject why ref) ∷ []) r

abbrev pub next : Core → ℕ
next c = c.ledger.last + 1

-- what every numbering asks: not 256 in flight, not 256 in the batch, a number left
abbrev pub can_number : {A : Type 0} → A → Core → Rest → Tests A
can_number k c r =
    (k, ltb (length c.flights) most_in_flight) ∷ (k, ltb (length r.batch) most_in_batch) ∷ (k, ltb (next c) modulus) ∷ []

abbrev pub queued : Command → Rest → Rest
queued k r = with_batch (r.batch ++ (k ∷ [])) r

-- a command that places nothing is numbered (`push`)
abbrev pub numbered : Option ℕ → Command → Core → Rest → Plan
numbered s k c r = records (record { client_ref = 0; session = s }) (command (next c) k) [] (queued k r)

abbrev pub price_of : OrderKind → Option ℤ
price_of (Kind.Limit p t d) = Some p
price_of Kind.Market = None
price_of (Kind.Stop t l) = l

abbrev pub command_of : ℕ → ℕ → Side → ℕ → OrderKind → Command
command_of n a s q (Kind.Limit p t d) = Limit n a s p q t d
command_of n a s q Kind.Market = Market n a s q
command_of n a s q (Kind.Stop t l) = Stop n a s t l q

-- what q at p would hold fits, is not negative, and the free part of account a's wallet covers it exactly
abbrev pub covered : ℤ → Side → ℤ → ℕ → ℕ → Funds → List Order → Bool
covered fee s p q a w os = option false (λ h. le_z (pos 0) h && W.covers s h (balance_with fee a os w)) (W.hold_of s (W.charged fee s p) q)

-- a wallet's account places limit orders that it can pay for in full
abbrev pub paper_tests : ℕ → Side → ℕ → Core → Rest → OrderKind → Funds → Tests RejectCode
paper_tests a s q c r (Kind.Limit p t d) w =
    (OffMarket, near_market p r.collar c.ledger.mark)
    ∷ (InsufficientFunds, covered c.ledger.fee s p q a w c.ledger.orders)
    ∷ []
paper_tests a s q c r Kind.Market w = (NotAllowed, false) ∷ []
paper_tests a s q c r (Kind.Stop t l) w = (NotAllowed, false) ∷ []

abbrev pub is_zero : ℤ → Bool
is_zero z = le_z z (pos 0) && le_z (pos 0) z

-- the notice of a new order's hold, where its account has a wallet
abbrev pub new_notice : ℤ → ℕ → NewOrder → Option Funds → List ℕ
new_notice fee a o w = option [] (λ f. cond (is_zero (hold fee o.side (price_of o.kind) o.qty)) [] (a ∷ [])) w

abbrev pub most_open : Option Account → ℕ
most_open a = option 0 (λ x. x.max_open_orders) a

abbrev pub new_tests : ℕ → NewOrder → Command → Core → Rest → Tests RejectCode
new_tests a o k c r =
    (TooManyOrders, ltb (open_of a c.ledger.orders) (most_open (account_at a c)))
    ∷ option [] (paper_tests a o.side o.qty c r o.kind) (wallet_at a c)
    ++ (can_number Unavailable c r
    ++ ((Unavailable, ltb (length c.ledger.orders) most_orders)
    ∷ (Unavailable, leb (length (r.notices ++ new_notice c.ledger.fee a o (wallet_at a c))) most_notices)
    ∷ (Unavailable, fits_after (command (next c) k) c)
    ∷ []))

abbrev pub noticing : List ℕ → Rest → Rest
noticing ns r = pending r.depth r.trades (r.notices ++ ns) r

-- an order's number is that of the command that places it
abbrev pub enter_new : ℕ → ℕ → NewOrder → Core → Rest → Plan
enter_new s a o c r =
    let k = command_of (next c) a o.side o.qty o.kind in
    unless (new_tests a o k c r) (reject s o.client_ref r)
    (records (record { client_ref = o.client_ref; session = Some s }) (command (next c) k) [] (queued k (noticing (new_notice c.ledger.fee a o (wallet_at a c)) r)))

-- a command that places nothing, after the tests of its own
abbrev pub enter_other : ℕ → Tests RejectCode → Command → Core → Rest → Plan
enter_other s own k c r = unless (own ++ can_number Unavailable c r) (reject s 0 r) (numbered (Some s) k c r)

abbrev pub rate_of : Option Account → ℕ
rate_of a = option 0 (λ x. x.messages_per_second) a

abbrev pub bucket_at : ℕ → Rest → Bucket
bucket_at a r = get_or r.buckets a (Throttle.full 0)

-- the token is taken first, and stays taken whatever reject follows
abbrev pub taken : ℕ → Core → Rest → Taken
taken a c r = Throttle.take_token (rate_of (account_at a c)) r.clock (bucket_at a r)

abbrev pub with_token : ℕ → ℕ → ℕ → Core → Rest → (Rest → Plan) → Plan
with_token s a ref c r enter =
    let after = with_buckets (set r.buckets a (taken a c r).bucket) r in
    unless ((Throttled, (taken a c r).passed) ∷ []) (reject s ref after) (enter after)

-- ---- publishing

abbrev pub update_of : ℕ → Side → Level → LevelUpdate
update_of seq s l = record { seq = seq; side = s; price = l.price; qty = l.qty; orders = l.orders }

abbrev pub level_to : ℕ → ℕ → Side → Level → Mail
level_to to seq s l = send to (Out.LevelUpdate (update_of seq s l))

-- trades, then each changed level once, as it is now
abbrev pub changes_to : ℕ → Rest → List Mail
changes_to s r =
    map (λ t. send s (Out.TradeTick t)) r.trades ++ map (λ k. level_to s r.delivered k.0 (level k r.depth)) r.depth.changed

-- one balance for each notice, to the account's session where it is open
abbrev pub notice_mail : ℕ → Core → Rest → List Mail
notice_mail a c r = option [] (λ s. cond (is_open (session_at s r)) (balance_to s (balance a c)) []) (session_of a r)

-- balances in notice order, then the market's changes to each open subscriber
abbrev pub publish_mail : Core → Rest → List Mail
publish_mail c r =
    each (λ a. notice_mail a c r) r.notices ++ each_session (λ s x. cond (is_open x && is_subscribed x) (changes_to s r) []) r

abbrev pub settled_depth : Depth → Depth
settled_depth d = record { resting = d.resting; changed = [] }

abbrev pub published : Rest → Rest
published r = with_published r.delivered (pending (settled_depth r.depth) [] [] r)

abbrev pub snapshot : ℕ → Rest → List Mail
snapshot s r =
    let bids = levels Buy r.depth.resting in
    let asks = levels Sell r.depth.resting in
    send s (Out.BookSnapshot r.delivered (length bids + length asks))
    ∷ (map (level_to s r.delivered Buy) bids ++ map (level_to s r.delivered Sell) asks)

-- what was delivered and not published goes out first, to everyone
abbrev pub subscribe : ℕ → Core → Rest → Plan
subscribe s c r = sends (publish_mail c r ++ snapshot s r) (update_session s set_subscribed (published r))

-- ---- receiving

-- a message of a session that is logged in for account a: login, logout, heartbeat and subscribe take no token
unfoldable pub hear : ℕ → ℕ → Inbound → Core → Rest → Plan
hear s a (In.Login version b token) c r = sends (send s (Out.LoginRejected AlreadyInSession) ∷ []) r
hear s a In.Logout c r = ended s (Out.Logout Requested) r
hear s a In.Heartbeat c r = sends [] r
hear s a In.Subscribe c r = subscribe s c r
hear s a (In.NewOrder o) c r = with_token s a o.client_ref c r (enter_new s a o c)
hear s a (In.Cancel i) c r = with_token s a 0 c r (enter_other s [] (Cancel i a) c)
hear s a (In.Modify i p q) c r = with_token s a 0 c r (enter_other s ((NotAllowed, not (is_some (wallet_at a c))) ∷ []) (Modify i a p q) c)
hear s a In.MassCancel c r = with_token s a 0 c r (enter_other s [] (CancelAll a) c)

-- a session that is absent or closing is not heard; the clock is set all the same
unfoldable pub receive : ℕ → Inbound → Core → Rest → Plan
receive s m c r =
    let after = update_session s (set_received r.clock) r in
    cond (is_present (session_at s r)) (option (greet s m c after) (λ a. hear s a m c after) (account_of (session_at s r))) (sends [] r)
