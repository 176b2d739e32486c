-- Short lists of calls, and what is seen of each call.
use Rattle.std.specs.Prelude.{ℕ, ◌≡◌, List, [], ◌∷◌, ◌++◌, ℤ, pos, Option, Some, None}
use Rattle.orderbook.specs.declared.Side.{Side}
use Rattle.orderbook.specs.declared.Side.TheVariants.{Buy, Sell}
use Rattle.orderbook.specs.declared.TimeInForce.TheVariants.{Gtc}
use Rattle.orderbook.specs.declared.Command.TheVariants as Cmd
use Rattle.orderbook.specs.declared.Event.TheVariants as Ev
use Rattle.orderbook.specs.declared.CancelReason.TheVariants.{Requested}
use Rattle.orderbook.specs.declared.RejectReason.TheVariants.{UnknownOrder}
use Rattle.orderbook.specs.declared.Listed.{Listed}
use Rattle.orderbook.specs.declared.Listed.TheVariants as L
use Rattle.protocol.specs.declared.Inbound.{Inbound}
use Rattle.protocol.specs.declared.Inbound.TheVariants as In
use Rattle.protocol.specs.declared.OrderKind.TheVariants as Kind
use Rattle.protocol.specs.declared.Outbound.{Outbound}
use Rattle.protocol.specs.declared.Outbound.TheVariants as Out
use Rattle.protocol.specs.declared.ReportKind.{ReportKind}
use Rattle.protocol.specs.declared.ReportKind.TheVariants as Report
use Rattle.protocol.specs.declared.LoginError.TheVariants as Login
use Rattle.protocol.specs.declared.LogoutReason.TheVariants as Logout
use Rattle.protocol.specs.declared.RejectCode.TheVariants as Reject
use Rattle.accounts.specs.declared.Account.{Account}
use Rattle.accounts.specs.declared.Timing.{Timing}
use Rattle.accounts.specs.declared.Funds.{Funds}
use Rattle.table.specs.Live.{Each}
use Rattle.gateway.specs.Rest.{Mail, send, close}
use Rattle.gateway.specs.Entry.{Answer, nothing, account_was, wallet_is, number_is, levels_are, commands, bytes}
use Rattle.gateway.specs.Calls.{Gateway, Call, add_account, connect, set_paper_collar, wallet, last_seq, depth_levels, receive_from, tick, publish, shut_down, disconnect, detach, take_batch, deliver_event, replay_command, replay_event, finish, checkpoint, Outcome, refused, done, call}
use Rattle.gateway.specs.Start.{Started, not_started, started, set_up, restore}
use Rattle.gateway.specs.Restart.{next_of}

-- what a caller sees of a call: its code, or its answer and the messages sent
pub data Seen : Type 0 where
  code : ℕ → Seen
  sees : Answer → List Mail → Seen

abbrev pub seen : Outcome → Seen
seen (refused k) = code k
seen (done a is ms g) = sees a ms

abbrev pub run : Gateway → List Call → List Seen
run g [] = []
run g (x ∷ xs) = seen (call g x) ∷ run (next_of g (call g x)) xs

abbrev pub run_from : Started → List Call → List Seen
run_from (not_started k) xs = code k ∷ []
run_from (started g) xs = run g xs

-- ---- the start: account 0 has 1,000 pence and 5 seats, account 1 no wallet, account 2 has 10 seats and may send one message a second

abbrev funds : ℤ → ℤ → Option Funds
funds c p = Some (record { cash = c; position = p })

abbrev member : ℕ → ℕ → ℕ → Option Funds → Account
member i token rate f = record { id = i; token = token; max_open_orders = 2; messages_per_second = rate; funds = f }

abbrev people : List Account
people = member 0 7 9 (funds (pos 1000) (pos 5)) ∷ member 1 8 9 None ∷ member 2 9 1 (funds (pos 0) (pos 10)) ∷ []

abbrev timing : Timing
timing = record { heartbeat = 1000000000; idle_timeout = 5000000000 }

abbrev start : Started
start = set_up (pos 0) 4 0 people [] timing

abbrev log_in : ℕ → ℕ → ℕ → Call
log_in s a token = receive_from s (In.Login 1 a token) 1 9

abbrev hears : ℕ → Inbound → Call
hears s m = receive_from s m 1 9

abbrev buys : ℕ → ℤ → ℕ → Inbound
buys ref p q = In.NewOrder (record { client_ref = ref; side = Buy; qty = q; kind = Kind.Limit p Gtc None })

abbrev sells : ℕ → ℤ → ℕ → Inbound
sells ref p q = In.NewOrder (record { client_ref = ref; side = Sell; qty = q; kind = Kind.Limit p Gtc None })

abbrev pub quietly : Seen
quietly = sees nothing []

abbrev pub tells : List Mail → Seen
tells ms = sees nothing ms

abbrev balance : ℤ → ℤ → ℤ → ℤ → Outbound
balance c p ch ph = Out.Balance (record { cash = c; position = p; cash_held = ch; position_held = ph })

abbrev about : ℕ → ℕ → ℕ → ReportKind → Outbound
about n i ref k = Out.Report (record { seq = n; order_id = i; client_ref = ref; kind = k })

abbrev level : ℕ → Side → ℤ → ℕ → ℕ → Outbound
level n s p q k = Out.LevelUpdate (record { seq = n; side = s; price = p; qty = q; orders = k })

abbrev has : ℤ → ℤ → ℤ → ℤ → Seen
has c p ch ph = sees (wallet_is (Some (record { cash = c; position = p; cash_held = ch; position_held = ph }))) []

-- the last bytes that a run gave
abbrev bytes_in : Seen → List ℕ → List ℕ
bytes_in (code k) bs = bs
bytes_in (sees nothing ms) bs = bs
bytes_in (sees (account_was a) ms) bs = bs
bytes_in (sees (wallet_is b) ms) bs = bs
bytes_in (sees (number_is n) ms) bs = bs
bytes_in (sees (levels_are l) ms) bs = bs
bytes_in (sees (commands l) ms) bs = bs
bytes_in (sees (bytes xs) ms) bs = xs

abbrev last_bytes : List Seen → List ℕ → List ℕ
last_bytes [] bs = bs
last_bytes (x ∷ xs) bs = last_bytes xs (bytes_in x bs)

-- ---- the lists

-- two members log in, and the first places a buy of 4 at 250, which rests
abbrev opening_calls : List Call
opening_calls =
    connect 3 0 ∷ log_in 3 0 7 ∷ connect 4 0 ∷ log_in 4 1 8
    ∷ hears 3 (buys 77 (pos 250) 4) ∷ take_batch 9 ∷ deliver_event 1 (Ev.Accepted 1) 9 ∷ deliver_event 1 (Ev.Rested 1 Buy (pos 250) 4 4) 9 ∷ []

abbrev opening_seen : List Seen
opening_seen =
    quietly
    ∷ tells (send 3 (Out.LoginAccepted 0 0) ∷ send 3 (balance (pos 1000) (pos 5) (pos 0) (pos 0)) ∷ [])
    ∷ quietly
    ∷ tells (send 4 (Out.LoginAccepted 1 0) ∷ [])
    ∷ quietly
    ∷ sees (commands (Cmd.Limit 1 0 Buy (pos 250) 4 Gtc None ∷ [])) []
    ∷ tells (send 3 (about 1 1 77 Report.Accepted) ∷ [])
    ∷ tells (send 3 (about 1 1 77 (Report.Rested Buy (pos 250) 4 4)) ∷ [])
    ∷ []

-- the second sells 2 of them at 240: the taker is reported first, cash falls by 480, 500 stays held; one balance for each of three notices; then a cancel
abbrev filled_calls : List Call
filled_calls =
    wallet 0 ∷ hears 4 (sells 88 (pos 240) 3) ∷ deliver_event 2 (Ev.Trade 1 2 1 Sell (pos 240) 2 1 2) 9 ∷ wallet 0 ∷ publish 9
    ∷ hears 3 (In.Cancel 1) ∷ deliver_event 3 (Ev.Cancelled 1 2 Requested) 9 ∷ wallet 0 ∷ last_seq ∷ []

abbrev filled_seen : List Seen
filled_seen =
    has (pos 1000) (pos 5) (pos 1000) (pos 0)
    ∷ quietly
    ∷ tells (send 4 (about 2 2 88 (Report.Fill 1 Sell (pos 240) 2 1)) ∷ send 3 (about 2 1 77 (Report.Fill 1 Buy (pos 240) 2 2)) ∷ [])
    ∷ has (pos 520) (pos 7) (pos 500) (pos 0)
    ∷ tells (send 3 (balance (pos 520) (pos 7) (pos 500) (pos 0)) ∷ send 3 (balance (pos 520) (pos 7) (pos 500) (pos 0)) ∷ send 3 (balance (pos 520) (pos 7) (pos 500) (pos 0)) ∷ [])
    ∷ quietly
    ∷ tells (send 3 (about 3 1 77 (Report.Cancelled 2 Requested)) ∷ [])
    ∷ has (pos 520) (pos 7) (pos 0) (pos 0)
    ∷ sees (number_is 3) []
    ∷ []

-- a burst of two messages at one a second: the second is throttled, a subscription is not, and a second later there is a token again
abbrev burst_calls : List Call
burst_calls =
    connect 5 0 ∷ log_in 5 2 9 ∷ hears 5 In.MassCancel ∷ hears 5 In.MassCancel ∷ hears 5 In.Subscribe
    ∷ receive_from 5 In.MassCancel 1000000001 9 ∷ receive_from 5 (In.Cancel 1) 1000000002 9 ∷ []

abbrev burst_seen : List Seen
burst_seen =
    quietly
    ∷ tells (send 5 (Out.LoginAccepted 2 0) ∷ send 5 (balance (pos 0) (pos 10) (pos 0) (pos 0)) ∷ [])
    ∷ quietly
    ∷ tells (send 5 (Out.Reject Reject.Throttled 0) ∷ [])
    ∷ tells (send 5 (Out.BookSnapshot 0 0) ∷ [])
    ∷ quietly
    ∷ tells (send 5 (Out.Reject Reject.Throttled 0) ∷ [])
    ∷ []

-- a book of two bids at 100, one of them an iceberg, a bid at 90 and an ask: the snapshot, then the changed level with what is left of it
abbrev book : List Listed
book =
    L.Order 4 1 Buy (pos 100) 2 2 ∷ L.Order 1 0 Buy (pos 100) 5 3 ∷ L.Order 2 1 Buy (pos 90) 4 4 ∷ L.Order 3 1 Sell (pos 120) 1 1
    ∷ L.Stop 5 2 Sell None 1 ∷ []

abbrev depth_calls : List Call
depth_calls =
    connect 3 0 ∷ log_in 3 0 7 ∷ hears 3 In.Subscribe ∷ hears 3 (In.Cancel 1) ∷ deliver_event 10 (Ev.Cancelled 1 5 Requested) 9 ∷ publish 9
    ∷ hears 3 (In.Cancel 4) ∷ deliver_event 11 (Ev.Cancelled 4 2 Requested) 9 ∷ publish 9 ∷ depth_levels Buy 9 ∷ []

abbrev depth_seen : List Seen
depth_seen =
    quietly
    ∷ tells (send 3 (Out.LoginAccepted 0 9) ∷ send 3 (balance (pos 1000) (pos 5) (pos 500) (pos 0)) ∷ send 3 (about 9 1 0 (Report.Rested Buy (pos 100) 5 5)) ∷ [])
    ∷ tells (send 3 (Out.BookSnapshot 9 3) ∷ send 3 (level 9 Buy (pos 100) 5 2) ∷ send 3 (level 9 Buy (pos 90) 4 1) ∷ send 3 (level 9 Sell (pos 120) 1 1) ∷ [])
    ∷ quietly
    ∷ tells (send 3 (about 10 1 0 (Report.Cancelled 5 Requested)) ∷ [])
    ∷ tells (send 3 (balance (pos 1000) (pos 5) (pos 0) (pos 0)) ∷ send 3 (level 10 Buy (pos 100) 2 1) ∷ [])
    ∷ quietly
    ∷ tells []
    ∷ tells (send 3 (level 11 Buy (pos 100) 0 0) ∷ [])
    ∷ sees (levels_are (record { price = pos 90; qty = 4; orders = 1 } ∷ [])) []
    ∷ []

-- a logout leaves the account taken until the connection is gone; a disconnect cancels its orders
abbrev gone_calls : List Call
gone_calls =
    connect 3 0 ∷ log_in 3 0 7 ∷ hears 3 In.Logout ∷ connect 4 0 ∷ log_in 4 0 7 ∷ detach 3 ∷ detach 3 ∷ connect 5 0 ∷ log_in 5 0 7 ∷ disconnect 5
    ∷ take_batch 9 ∷ deliver_event 1 (Ev.MassCancelled 0 0) 9 ∷ []

abbrev gone_seen : List Seen
gone_seen =
    quietly
    ∷ tells (send 3 (Out.LoginAccepted 0 0) ∷ send 3 (balance (pos 1000) (pos 5) (pos 0) (pos 0)) ∷ [])
    ∷ tells (send 3 (Out.Logout Logout.Requested) ∷ close 3 ∷ [])
    ∷ quietly
    ∷ tells (send 4 (Out.LoginRejected Login.AlreadyLoggedIn) ∷ close 4 ∷ [])
    ∷ sees (account_was (Some 0)) []
    ∷ sees (account_was None) []
    ∷ quietly
    ∷ tells (send 5 (Out.LoginAccepted 0 0) ∷ send 5 (balance (pos 1000) (pos 5) (pos 0) (pos 0)) ∷ [])
    ∷ quietly
    ∷ sees (commands (Cmd.CancelAll 0 ∷ [])) []
    ∷ quietly
    ∷ []

-- two wallets trade with each other: the reference price stays absent, so the collar lets a far price by; a trade with an account without wallet sets it
abbrev collar_calls : ℕ → ℕ → ℕ → List Call
collar_calls s a token =
    connect 3 0 ∷ log_in 3 0 7 ∷ connect s 0 ∷ log_in s a token ∷ hears 3 (buys 1 (pos 250) 1) ∷ hears s (sells 2 (pos 250) 1)
    ∷ deliver_event 2 (Ev.Trade 1 2 1 Sell (pos 250) 1 0 0) 9 ∷ set_paper_collar (Some 10) ∷ hears 3 (buys 3 (pos 1) 1) ∷ []

abbrev last_seen : List Seen → Seen
last_seen [] = quietly
last_seen (x ∷ []) = x
last_seen (x ∷ y ∷ xs) = last_seen (y ∷ xs)

-- the order of a wallet's rejects; the last is 01's buy of 2 at 2^63 − 1
abbrev reject_calls : List Call
reject_calls =
    connect 3 0 ∷ log_in 3 0 7 ∷ hears 3 (In.Modify 1 (pos 1) 1) ∷ hears 3 (buys 5 (pos 9223372036854775807) 2) ∷ hears 3 (buys 1 (pos 500) 1) ∷ hears 3 (buys 2 (pos 500) 1)
    ∷ hears 3 (buys 3 (pos 1) 1) ∷ deliver_event 1 (Ev.Rejected 1 UnknownOrder) 9 ∷ hears 3 (buys 4 (pos 501) 1) ∷ hears 3 (buys 4 (pos 500) 1)
    ∷ deliver_event 3 (Ev.Rejected 2 UnknownOrder) 9 ∷ []

abbrev reject_seen : List Seen
reject_seen =
    quietly
    ∷ tells (send 3 (Out.LoginAccepted 0 0) ∷ send 3 (balance (pos 1000) (pos 5) (pos 0) (pos 0)) ∷ [])
    ∷ tells (send 3 (Out.Reject Reject.NotAllowed 0) ∷ [])
    ∷ tells (send 3 (Out.Reject Reject.InsufficientFunds 5) ∷ [])
    ∷ quietly
    ∷ quietly
    ∷ tells (send 3 (Out.Reject Reject.TooManyOrders 3) ∷ [])
    ∷ tells (send 3 (about 1 1 1 (Report.Rejected UnknownOrder)) ∷ [])
    ∷ tells (send 3 (Out.Reject Reject.InsufficientFunds 4) ∷ [])
    ∷ quietly
    ∷ code 8
    ∷ []

-- a heartbeat after a second of silence, a logout after five; a login in a session that is logged in, and a message before any login
abbrev tick_calls : List Call
tick_calls =
    connect 3 0 ∷ log_in 3 1 8 ∷ tick 1000000001 9 ∷ hears 3 (In.Login 1 1 8) ∷ tick 5000000001 9 ∷ tick 5000000002 9
    ∷ connect 6 0 ∷ hears 6 In.Heartbeat ∷ connect 7 0 ∷ shut_down 9 ∷ []

abbrev tick_seen : List Seen
tick_seen =
    quietly
    ∷ tells (send 3 (Out.LoginAccepted 1 0) ∷ [])
    ∷ tells (send 3 Out.Heartbeat ∷ [])
    ∷ tells (send 3 (Out.LoginRejected Login.AlreadyInSession) ∷ [])
    ∷ tells (send 3 (Out.Logout Logout.Idle) ∷ close 3 ∷ [])
    ∷ quietly
    ∷ quietly
    ∷ tells (send 6 (Out.Logout Logout.ProtocolError) ∷ close 6 ∷ [])
    ∷ quietly
    ∷ tells (send 7 (Out.Logout Logout.Shutdown) ∷ close 7 ∷ [])
    ∷ []

-- a checkpoint, restored and replayed: the second gateway has the first's wallet, and the client reference placed before the checkpoint
abbrev saved_bytes : List ℕ
saved_bytes = last_bytes (run_from start (opening_calls ++ (checkpoint 99 ∷ checkpoint 101 ∷ checkpoint 102 ∷ []))) []

abbrev restart_calls : List Call
restart_calls =
    replay_command 2 (Cmd.Limit 2 1 Sell (pos 240) 3 Gtc None) ∷ replay_event 2 (Ev.Trade 1 2 1 Sell (pos 240) 2 1 2) ∷ wallet 0
    ∷ finish (L.Order 1 0 Buy (pos 250) 2 2 ∷ []) ∷ finish (L.Order 1 0 Buy (pos 250) 2 2 ∷ L.Order 2 1 Sell (pos 240) 1 1 ∷ []) ∷ connect 3 0 ∷ log_in 3 0 7 ∷ []

abbrev restart_seen : List Seen
restart_seen =
    quietly
    ∷ quietly
    ∷ has (pos 520) (pos 7) (pos 500) (pos 0)
    ∷ code 8
    ∷ quietly
    ∷ quietly
    ∷ tells (send 3 (Out.LoginAccepted 0 2) ∷ send 3 (balance (pos 520) (pos 7) (pos 500) (pos 0)) ∷ send 3 (about 2 1 77 (Report.Rested Buy (pos 250) 2 2)) ∷ [])
    ∷ []

-- a refusal of each code
abbrev refusal_calls : List Call
refusal_calls =
    add_account (member 4 1 1 None) ∷ add_account (member 0 1 1 None) ∷ deliver_event 1 (Ev.Accepted 1) 9
    ∷ connect 3 0 ∷ receive_from 3 (In.Login 1 0 7) 1 1 ∷ connect 64 0 ∷ connect 3 0 ∷ log_in 3 0 7 ∷ hears 3 In.MassCancel ∷ checkpoint 99
    ∷ replay_command 2 (Cmd.CancelAll 0) ∷ detach 3
    ∷ replay_command 2 (Cmd.Limit 3 0 Buy (pos 1) 1 Gtc None)
    ∷ replay_command 2 (Cmd.Limit 2 0 Buy (pos 4611686018427387904) 1 Gtc None)
    ∷ replay_command 3 (Cmd.Limit 3 0 Buy (pos 4611686018427387904) 1 Gtc None)
    ∷ replay_command 3 (Cmd.Market 3 3 Buy 1) ∷ add_account (member 3 1 1 None) ∷ []

abbrev refusal_seen : List Seen
refusal_seen =
    code 1 ∷ code 3 ∷ code 4
    ∷ quietly ∷ code 6 ∷ code 9 ∷ code 9
    ∷ tells (send 3 (Out.LoginAccepted 0 0) ∷ send 3 (balance (pos 1000) (pos 5) (pos 0) (pos 0)) ∷ []) ∷ quietly ∷ code 10
    ∷ code 4 ∷ sees (account_was (Some 0)) []
    ∷ code 8
    ∷ quietly
    ∷ code 7
    ∷ quietly ∷ code 12 ∷ []

-- ---- the table

abbrev table : List (List Seen × List Seen)
table =
    (run_from start (opening_calls ++ filled_calls), opening_seen ++ filled_seen)
    ∷ (run_from start burst_calls, burst_seen)
    ∷ (run_from (set_up (pos 0) 4 9 people book timing) depth_calls, depth_seen)
    ∷ (run_from start gone_calls, gone_seen)
    ∷ (last_seen (run_from start (collar_calls 5 2 9)) ∷ [], quietly ∷ [])
    ∷ (last_seen (run_from start (collar_calls 4 1 8)) ∷ [], tells (send 3 (Out.Reject Reject.OffMarket 3) ∷ []) ∷ [])
    ∷ (run_from start reject_calls, reject_seen)
    ∷ (run_from start tick_calls, tick_seen)
    ∷ (run_from (restore (pos 0) 4 people timing saved_bytes) restart_calls, restart_seen)
    ∷ (run_from start refusal_calls, refusal_seen)
    ∷ (run_from (set_up (pos 0) 4 9 people (L.Stop 10 0 Buy None 1 ∷ []) timing) [], code 2 ∷ [])
    ∷ (run_from (set_up (pos 0) 257 0 [] [] timing) [], code 5 ∷ [])
    ∷ (run_from (restore (pos 0) 4 people timing (0 ∷ [])) [], code 11 ∷ [])
    ∷ []

-- each list of calls gives what stands beside it
abbrev pub Examples : Type 0
Examples = Each (λ row. row.0 ≡ row.1) table
