-- The rest of the gateway: what no replay needs. Sessions, buckets, the batch, the depth and what waits to be published.
use Rattle.std.specs.Prelude.{ℕ, suc, Bool, true, false, cond, not, ◌&&◌, List, [], ◌∷◌, ◌++◌, get_or, set, eqb, Option, Some, None, option_map, is_some}
use Rattle.orderbook.specs.declared.Command.{Command}
use Rattle.protocol.specs.declared.Outbound.{Outbound}
use Rattle.protocol.specs.declared.Report as R
use Rattle.protocol.specs.declared.TradeTick.{TradeTick}
use Rattle.protocol.specs.declared.Outbound.TheVariants as Out
use Rattle.accounts.specs.declared.Timing.{Timing}
use Rattle.risk.specs.declared.Bucket.{Bucket}
use Rattle.gateway.specs.Basics.{option}
use Rattle.gateway.specs.Depth.{Depth}

-- a connection; one that is closing hears nothing more and is sent nothing more
pub record Session : Type 0 where
  pub account : Option ℕ
  pub last_received : ℕ
  pub last_sent : ℕ
  pub closing : Bool
  pub subscribed : Bool

-- what goes to the network: a close counts as a message
pub data Mail : Type 0 where
  send : (session : ℕ) → Outbound → Mail
  close : (session : ℕ) → Mail

-- sessions and buckets by number; notices are accounts whose wallets changed, repeats included
pub record Rest : Type 0 where
  pub timing : Timing
  pub clock : ℕ
  pub sessions : List (Option Session)
  pub buckets : List Bucket
  pub batch : List Command
  pub delivered : ℕ
  pub published : ℕ
  pub depth : Depth
  pub trades : List TradeTick
  pub notices : List ℕ
  pub collar : Option ℕ

-- ---- setting one part

abbrev pub at_time : ℕ → Rest → Rest
at_time t r =
    record { timing = r.timing; clock = t; sessions = r.sessions; buckets = r.buckets; batch = r.batch; delivered = r.delivered; published = r.published; depth = r.depth; trades = r.trades; notices = r.notices; collar = r.collar }

abbrev pub with_sessions : List (Option Session) → Rest → Rest
with_sessions xs r =
    record { timing = r.timing; clock = r.clock; sessions = xs; buckets = r.buckets; batch = r.batch; delivered = r.delivered; published = r.published; depth = r.depth; trades = r.trades; notices = r.notices; collar = r.collar }

abbrev pub with_buckets : List Bucket → Rest → Rest
with_buckets bs r =
    record { timing = r.timing; clock = r.clock; sessions = r.sessions; buckets = bs; batch = r.batch; delivered = r.delivered; published = r.published; depth = r.depth; trades = r.trades; notices = r.notices; collar = r.collar }

abbrev pub with_batch : List Command → Rest → Rest
with_batch ks r =
    record { timing = r.timing; clock = r.clock; sessions = r.sessions; buckets = r.buckets; batch = ks; delivered = r.delivered; published = r.published; depth = r.depth; trades = r.trades; notices = r.notices; collar = r.collar }

abbrev pub with_delivered : ℕ → Rest → Rest
with_delivered n r =
    record { timing = r.timing; clock = r.clock; sessions = r.sessions; buckets = r.buckets; batch = r.batch; delivered = n; published = r.published; depth = r.depth; trades = r.trades; notices = r.notices; collar = r.collar }

-- what waits to be published: trades, notices, and the depth with its changed levels
abbrev pub pending : Depth → List TradeTick → List ℕ → Rest → Rest
pending d ts ns r =
    record { timing = r.timing; clock = r.clock; sessions = r.sessions; buckets = r.buckets; batch = r.batch; delivered = r.delivered; published = r.published; depth = d; trades = ts; notices = ns; collar = r.collar }

abbrev pub with_published : ℕ → Rest → Rest
with_published n r =
    record { timing = r.timing; clock = r.clock; sessions = r.sessions; buckets = r.buckets; batch = r.batch; delivered = r.delivered; published = n; depth = r.depth; trades = r.trades; notices = r.notices; collar = r.collar }

abbrev pub with_collar : Option ℕ → Rest → Rest
with_collar p r =
    record { timing = r.timing; clock = r.clock; sessions = r.sessions; buckets = r.buckets; batch = r.batch; delivered = r.delivered; published = r.published; depth = r.depth; trades = r.trades; notices = r.notices; collar = p }

-- ---- sessions

abbrev pub session_at : ℕ → Rest → Option Session
session_at s r = get_or r.sessions s None

-- logged in and not closing
abbrev pub is_open : Option Session → Bool
is_open x = option false (λ y. is_some y.account && not y.closing) x

-- there and not closing
abbrev pub is_present : Option Session → Bool
is_present x = option false (λ y. not y.closing) x

abbrev pub is_subscribed : Option Session → Bool
is_subscribed x = option false (λ y. y.subscribed) x

-- the account that a session is logged in for
abbrev pub account_of : Option Session → Option ℕ
account_of x = option None (λ y. y.account) x

abbrev pub logged_in : ℕ → Option Session → Bool
logged_in a x = option false (eqb a) (account_of x)

-- the session logged in for account a, closing or not, counted from s
abbrev pub session_from : ℕ → ℕ → List (Option Session) → Option ℕ
session_from s a [] = None
session_from s a (x ∷ xs) = cond (logged_in a x) (Some s) (session_from (suc s) a xs)

abbrev pub session_of : ℕ → Rest → Option ℕ
session_of a r = session_from 0 a r.sessions

abbrev pub update_session : ℕ → (Session → Session) → Rest → Rest
update_session s f r = with_sessions (set r.sessions s (option_map f (session_at s r))) r

abbrev pub no_session : List (Option Session) → Bool
no_session [] = true
no_session (None ∷ xs) = no_session xs
no_session (Some x ∷ xs) = false

abbrev pub set_received : ℕ → Session → Session
set_received t x = record { account = x.account; last_received = t; last_sent = x.last_sent; closing = x.closing; subscribed = x.subscribed }

abbrev pub set_sent : ℕ → Session → Session
set_sent t x = record { account = x.account; last_received = x.last_received; last_sent = t; closing = x.closing; subscribed = x.subscribed }

abbrev pub set_account : ℕ → Session → Session
set_account a x = record { account = Some a; last_received = x.last_received; last_sent = x.last_sent; closing = x.closing; subscribed = x.subscribed }

abbrev pub set_closing : Session → Session
set_closing x = record { account = x.account; last_received = x.last_received; last_sent = x.last_sent; closing = true; subscribed = x.subscribed }

abbrev pub set_subscribed : Session → Session
set_subscribed x = record { account = x.account; last_received = x.last_received; last_sent = x.last_sent; closing = x.closing; subscribed = true }

-- whoever is sent a message was last sent one now (`send`, `report`, `publish`)
abbrev pub stamp : Mail → Rest → Rest
stamp (send s m) r = update_session s (set_sent r.clock) r
stamp (close s) r = r

abbrev pub stamped : List Mail → Rest → Rest
stamped [] r = r
stamped (m ∷ ms) r = stamped ms (stamp m r)

-- ---- reports

-- a report goes to a session that is open
abbrev pub report : ℕ → R.Report → Rest → List Mail
report s m r = cond (is_open (session_at s r)) (send s (Out.Report m) ∷ []) []

abbrev pub report_to : Option ℕ → R.Report → Rest → List Mail
report_to s m r = option [] (λ t. report t m r) s

-- what is sent to each session in turn, counted from s
abbrev pub each_from : ℕ → (ℕ → Option Session → List Mail) → List (Option Session) → List Mail
each_from s f [] = []
each_from s f (x ∷ xs) = f s x ++ each_from (suc s) f xs

abbrev pub each_session : (ℕ → Option Session → List Mail) → Rest → List Mail
each_session f r = each_from 0 f r.sessions
