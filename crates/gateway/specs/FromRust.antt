-- Random lists of calls with what the published Rust made of each call. A refused call has the code of document 01. Printed by
-- `target/compare/release/lists 280 13` (compare/README.md), not by hand.
use Rattle.std.specs.Prelude.{ℕ, ◌≡◌, List, [], ◌∷◌, ℤ, pos, negsuc, Option, Some, None}
use Rattle.orderbook.specs.declared.Side.{Side}
use Rattle.orderbook.specs.declared.Side.TheVariants.{Buy, Sell}
use Rattle.orderbook.specs.declared.TimeInForce.TheVariants as Time
use Rattle.orderbook.specs.declared.Phase.TheVariants as Phase
use Rattle.orderbook.specs.declared.Command.TheVariants as Cmd
use Rattle.orderbook.specs.declared.Event.TheVariants as Ev
use Rattle.orderbook.specs.declared.CancelReason.TheVariants as Gone
use Rattle.orderbook.specs.declared.RejectReason.TheVariants as Why
use Rattle.orderbook.specs.declared.Listed.TheVariants as L
use Rattle.protocol.specs.declared.Inbound.TheVariants as In
use Rattle.protocol.specs.declared.NewOrder.{NewOrder}
use Rattle.protocol.specs.declared.OrderKind.{OrderKind}
use Rattle.protocol.specs.declared.OrderKind.TheVariants as Kind
use Rattle.protocol.specs.declared.Outbound.TheVariants as Out
use Rattle.protocol.specs.declared.Balance.{Balance}
use Rattle.protocol.specs.declared.LevelUpdate.{LevelUpdate}
use Rattle.protocol.specs.declared.TradeTick.{TradeTick}
use Rattle.protocol.specs.declared.Report as R
use Rattle.protocol.specs.declared.ReportKind.{ReportKind}
use Rattle.protocol.specs.declared.ReportKind.TheVariants as Report
use Rattle.protocol.specs.declared.LoginError.TheVariants as Login
use Rattle.protocol.specs.declared.LogoutReason.TheVariants as Logout
use Rattle.protocol.specs.declared.RejectCode.TheVariants as Reject
use Rattle.accounts.specs.declared.Account.{Account}
use Rattle.accounts.specs.declared.Funds.{Funds}
use Rattle.accounts.specs.declared.Timing.{Timing}
use Rattle.gateway.specs.Depth.{Level}
use Rattle.table.specs.Live.{Each}
use Rattle.gateway.specs.Rest.{send, close}
use Rattle.gateway.specs.Entry.{Answer, account_was, wallet_is, number_is, levels_are, commands, bytes}
use Rattle.gateway.specs.Calls.{Call, add_account, connect, set_paper_collar, wallet, last_seq, depth_levels, receive_from, tick, publish, end_session, shut_down, disconnect, detach, take_batch, deliver_event, replay_command, replay_event, finish, checkpoint}
use Rattle.gateway.specs.Start.{Started, set_up, restore}
use Rattle.gateway.specs.Examples.{Seen, code, sees, run_from, quietly, tells}

abbrev answers : Answer → Seen
answers a = sees a []

abbrev timing : ℕ → ℕ → Timing
timing h i = record { heartbeat = h; idle_timeout = i }

abbrev funds : ℤ → ℤ → Option Funds
funds c p = Some (record { cash = c; position = p })

abbrev member : ℕ → ℕ → ℕ → ℕ → Option Funds → Account
member i token most rate f = record { id = i; token = token; max_open_orders = most; messages_per_second = rate; funds = f }

abbrev order : ℕ → Side → ℕ → OrderKind → NewOrder
order ref s q k = record { client_ref = ref; side = s; qty = q; kind = k }

abbrev balance : ℤ → ℤ → ℤ → ℤ → Balance
balance c p ch ph = record { cash = c; position = p; cash_held = ch; position_held = ph }

abbrev report : ℕ → ℕ → ℕ → ReportKind → R.Report
report n i ref k = record { seq = n; order_id = i; client_ref = ref; kind = k }

abbrev level : ℕ → Side → ℤ → ℕ → ℕ → LevelUpdate
level n s p q k = record { seq = n; side = s; price = p; qty = q; orders = k }

abbrev trade : ℕ → ℕ → Side → ℤ → ℕ → TradeTick
trade n t s p q = record { seq = n; trade_id = t; side = s; price = p; qty = q }

abbrev at : ℤ → ℕ → ℕ → Level
at p q k = record { price = p; qty = q; orders = k }

abbrev start_0 : Started
start_0 =
    set_up (pos 0) 4 4 (member 0 7 9 1 None ∷ member 1 8 2 0 (funds (pos 1276) (pos 9)) ∷ member 2 9 9 1 (funds (pos 238) (pos 13))
    ∷ []) [] (timing 1000000000 5000000000)

abbrev calls_0 : List Call
calls_0 =
    set_paper_collar (Some 0) ∷ connect 1 0 ∷ receive_from 1 (In.Login 1 0 7) 1 1 ∷ wallet 2 ∷ last_seq ∷ receive_from 1 (In.Cancel 5) 3 999
    ∷ deliver_event 5 (Ev.Rested 3 Buy (pos 99) 2 2) 999 ∷ add_account (member 2 9 2 9 None) ∷ deliver_event 5 (Ev.Rested 4 Sell (pos 102) 4 4) 0
    ∷ deliver_event 5 (Ev.PhaseChanged Phase.Continuous) 0 ∷ deliver_event 5 (Ev.PhaseChanged Phase.Continuous) 1
    ∷ receive_from 1 (In.NewOrder (order 27 Buy 4 (Kind.Stop (pos 102) (Some (pos 101))))) 4 1
    ∷ deliver_event 5 (Ev.Trade 6 3 4 Buy (pos 102) 1 4 2) 0 ∷ receive_from 1 (In.NewOrder (order 30 Buy 9223372036854775807 Kind.Market)) 5 999
    ∷ receive_from 1 (In.Cancel 2) 8 999 ∷ deliver_event 5 (Ev.Trade 64 0 3 Sell (pos 99) 1 0 2) 0
    ∷ deliver_event 5 (Ev.Cancelled 3 1 Gone.PriceBand) 0 ∷ receive_from 1 (In.NewOrder (order 41 Sell 4 (Kind.Stop (pos 98) None))) 497666589 0
    ∷ receive_from 1 (In.NewOrder (order 41 Sell 4 (Kind.Stop (pos 98) None))) 497666589 1
    ∷ receive_from 1 (In.NewOrder (order 15 Sell 1 (Kind.Limit (pos 99) Time.Fok None))) 1737315356 0
    ∷ deliver_event 6 (Ev.Rested 6 Sell (pos 99) 1 1) 0 ∷ deliver_event 6 (Ev.Rested 6 Sell (pos 99) 1 1) 999 ∷ deliver_event 6 (Ev.Accepted 6) 1
    ∷ receive_from 1 (In.Modify 6 (pos 100) 4) 1737315356 999
    ∷ receive_from 1 (In.NewOrder (order 46 Buy 3 (Kind.Limit (pos 101) Time.Ioc None))) 1737315358 999 ∷ take_batch 999
    ∷ deliver_event 6 (Ev.Trade 51 6 6 Sell (pos 99) 1 0 0) 999 ∷ take_batch 0 ∷ deliver_event 6 (Ev.PhaseChanged Phase.Closed) 999 ∷ checkpoint 102
    ∷ []

abbrev seen_0 : List Seen
seen_0 =
    quietly ∷ quietly ∷ tells (send 1 (Out.LoginAccepted 0 4) ∷ []) ∷ answers (wallet_is (Some (balance (pos 238) (pos 13) (pos 0) (pos 0))))
    ∷ answers (number_is 4) ∷ quietly ∷ quietly ∷ code 3 ∷ quietly ∷ code 6
    ∷ tells (send 1 (Out.Report (report 5 0 0 (Report.PhaseChanged Phase.Continuous))) ∷ []) ∷ tells (send 1 (Out.Reject Reject.Throttled 27) ∷ [])
    ∷ quietly ∷ tells (send 1 (Out.Reject Reject.Throttled 30) ∷ []) ∷ tells (send 1 (Out.Reject Reject.Throttled 0) ∷ []) ∷ quietly ∷ quietly
    ∷ code 6 ∷ tells (send 1 (Out.Reject Reject.Throttled 41) ∷ []) ∷ quietly ∷ code 6
    ∷ tells (send 1 (Out.Report (report 6 6 15 (Report.Rested Sell (pos 99) 1 1))) ∷ []) ∷ tells (send 1 (Out.Report (report 6 6 15 Report.Accepted))
    ∷ []) ∷ tells (send 1 (Out.Reject Reject.Throttled 0) ∷ []) ∷ tells (send 1 (Out.Reject Reject.Throttled 46) ∷ [])
    ∷ answers (commands (Cmd.Cancel 5 0 ∷ Cmd.Limit 6 0 Sell (pos 99) 1 Time.Fok None ∷ [])) ∷ code 8 ∷ answers (commands [])
    ∷ tells (send 1 (Out.Report (report 6 0 0 (Report.PhaseChanged Phase.Closed))) ∷ []) ∷ answers (bytes (6 ∷ 0 ∷ 0 ∷ 0 ∷ 0 ∷ 0 ∷ 0 ∷ 0 ∷ 1 ∷ 99 ∷ 0
    ∷ 0 ∷ 0 ∷ 0 ∷ 0 ∷ 0 ∷ 0 ∷ 2 ∷ 0 ∷ 0 ∷ 0 ∷ 1 ∷ 0 ∷ 0 ∷ 0 ∷ 252 ∷ 4 ∷ 0 ∷ 0 ∷ 0 ∷ 0 ∷ 0 ∷ 0 ∷ 9 ∷ 0 ∷ 0 ∷ 0 ∷ 0 ∷ 0 ∷ 0 ∷ 0 ∷ 2 ∷ 0 ∷ 0 ∷ 0 ∷ 238
    ∷ 0 ∷ 0 ∷ 0 ∷ 0 ∷ 0 ∷ 0 ∷ 0 ∷ 13 ∷ 0 ∷ 0 ∷ 0 ∷ 0 ∷ 0 ∷ 0 ∷ 0 ∷ 1 ∷ 0 ∷ 0 ∷ 0 ∷ 6 ∷ 0 ∷ 0 ∷ 0 ∷ 0 ∷ 0 ∷ 0 ∷ 0 ∷ 0 ∷ 0 ∷ 0 ∷ 0 ∷ 15 ∷ 0 ∷ 0 ∷ 0 ∷ 0
    ∷ 0 ∷ 0 ∷ 0 ∷ 2 ∷ 99 ∷ 0 ∷ 0 ∷ 0 ∷ 0 ∷ 0 ∷ 0 ∷ 0 ∷ 1 ∷ 0 ∷ 0 ∷ 0 ∷ 0 ∷ 0 ∷ 0 ∷ 0 ∷ [])) ∷ []

abbrev start_1 : Started
start_1 =
    set_up (pos 0) 4 1 (member 0 7 2 9 (funds (pos 1825) (pos 13)) ∷ member 1 8 3 9 (funds (pos 492) (pos 5))
    ∷ member 2 9 9 9 (funds (pos 1907) (pos 12)) ∷ []) (L.Order 1 2 Buy (pos 98) 5 5 ∷ []) (timing 1000000000 5000000000)

abbrev calls_1 : List Call
calls_1 =
    connect 1 0 ∷ receive_from 1 (In.Login 1 0 7) 2 999 ∷ receive_from 1 In.Subscribe 5000000002 1 ∷ receive_from 1 In.Subscribe 5000000002 999
    ∷ connect 2 5000000002 ∷ receive_from 2 (In.Login 1 1 8) 5000000003 999 ∷ receive_from 2 In.Subscribe 5000000004 999 ∷ connect 1 5000000006
    ∷ take_batch 0 ∷ receive_from 1 (In.Cancel 1) 5000000005 0 ∷ deliver_event 2 (Ev.MassCancelled 0 2) 999
    ∷ deliver_event 2 (Ev.Trade 54 1 1 Buy (pos 98) 4 1 1) 999 ∷ deliver_event 1 (Ev.PhaseChanged Phase.Halted) 999
    ∷ deliver_event 2 (Ev.Modified 1 (pos 102) 4 0) 999 ∷ deliver_event 2 (Ev.Cancelled 3 6 Gone.PriceBand) 999
    ∷ receive_from 1 (In.NewOrder (order 44 Sell 3 (Kind.Limit (pos 97) Time.Fok None))) 6122237414 0
    ∷ deliver_event 2 (Ev.Rested 3 Sell (pos 97) 3 3) 999
    ∷ receive_from 2 (In.NewOrder (order 14 Sell 4 (Kind.Stop (pos 101) (Some (pos 100))))) 11122237414 1
    ∷ deliver_event 2 (Ev.PhaseChanged Phase.Halted) 999 ∷ deliver_event 2 (Ev.Rejected 3 Why.UnknownOrder) 999
    ∷ deliver_event 3 (Ev.StopPlaced 3 Sell (pos 102) (Some (pos 97)) 6) 1 ∷ deliver_event 3 (Ev.Accepted 3) 999
    ∷ receive_from 2 (In.NewOrder (order 70 Sell 4 (Kind.Limit (pos 99) Time.Ioc None))) 11122237414 999
    ∷ deliver_event 4 (Ev.Cancelled 4 4 Gone.MassCancel) 999 ∷ deliver_event 4 (Ev.Trade 51 3 3 Sell (pos 97) 3 0 0) 999 ∷ []

abbrev seen_1 : List Seen
seen_1 =
    quietly ∷ tells (send 1 (Out.LoginAccepted 0 1) ∷ send 1 (Out.Balance (balance (pos 1825) (pos 13) (pos 0) (pos 0))) ∷ []) ∷ code 6
    ∷ tells (send 1 (Out.BookSnapshot 1 1) ∷ send 1 (Out.LevelUpdate (level 1 Buy (pos 98) 5 1)) ∷ []) ∷ quietly
    ∷ tells (send 2 (Out.LoginAccepted 1 1) ∷ send 2 (Out.Balance (balance (pos 492) (pos 5) (pos 0) (pos 0))) ∷ [])
    ∷ tells (send 2 (Out.BookSnapshot 1 1) ∷ send 2 (Out.LevelUpdate (level 1 Buy (pos 98) 5 1)) ∷ []) ∷ code 9 ∷ answers (commands []) ∷ quietly
    ∷ tells (send 1 (Out.Report (report 2 0 0 (Report.MassCancelled 2))) ∷ []) ∷ code 8 ∷ code 4 ∷ quietly ∷ code 8 ∷ quietly ∷ code 8
    ∷ tells (send 2 (Out.Reject Reject.NotAllowed 14) ∷ []) ∷ tells (send 1 (Out.Report (report 2 0 0 (Report.PhaseChanged Phase.Halted)))
    ∷ send 2 (Out.Report (report 2 0 0 (Report.PhaseChanged Phase.Halted))) ∷ []) ∷ code 8
    ∷ tells (send 1 (Out.Report (report 3 3 44 (Report.StopPlaced Sell (pos 102) (Some (pos 97)) 6))) ∷ [])
    ∷ tells (send 1 (Out.Report (report 3 3 44 Report.Accepted)) ∷ []) ∷ quietly
    ∷ tells (send 2 (Out.Report (report 4 4 70 (Report.Cancelled 4 Gone.MassCancel))) ∷ []) ∷ code 8 ∷ []

abbrev start_2 : Started
start_2 =
    set_up (pos 0) 4 7 (member 0 7 9 1 (funds (pos 1792) (pos 18)) ∷ member 1 8 3 9 (funds (pos 1558) (pos 3)) ∷ member 2 9 9 9 None
    ∷ []) [] (timing 4 12)

abbrev calls_2 : List Call
calls_2 =
    set_paper_collar (Some 0) ∷ connect 1 0 ∷ receive_from 1 (In.Login 1 0 7) 1 1 ∷ receive_from 1 (In.Login 1 0 7) 1 999 ∷ connect 2 4
    ∷ receive_from 2 (In.Login 1 1 8) 5 999 ∷ tick 8 0 ∷ tick 8 999
    ∷ receive_from 1 (In.NewOrder (order 22 Sell 3 (Kind.Limit (pos 99) Time.Gtc None))) 9 0 ∷ connect 3 12 ∷ disconnect 2 ∷ connect 2 12
    ∷ receive_from 2 (In.Login 1 3 0) 14 2 ∷ connect 0 15
    ∷ receive_from 1 (In.NewOrder (order 63 Buy 4 (Kind.Limit (negsuc 4611686018427387903) Time.Fok (Some 6)))) 15 999
    ∷ end_session 1 Logout.SlowConsumer 999 ∷ receive_from 1 (In.NewOrder (order 26 Sell 5 (Kind.Limit (pos 100) Time.Gtc None))) 18 0
    ∷ replay_command 10 (Cmd.Limit 10 0 Buy (pos 99) 3 Time.Ioc (Some 3)) ∷ publish 999 ∷ receive_from 1 In.Subscribe 18 0
    ∷ add_account (member 5 12 9 9 None) ∷ deliver_event 9 (Ev.Modified 8 (pos 99) 3 3) 999 ∷ connect 0 20 ∷ replay_event 9 (Ev.MassCancelled 2 2)
    ∷ receive_from 1 (In.Cancel 8) 22 999 ∷ receive_from 1 (In.NewOrder (order 54 Buy 5 (Kind.Limit (pos 97) Time.Gtc None))) 19 999 ∷ []

abbrev seen_2 : List Seen
seen_2 =
    quietly ∷ quietly ∷ code 6 ∷ tells (send 1 (Out.LoginAccepted 0 7) ∷ send 1 (Out.Balance (balance (pos 1792) (pos 18) (pos 0) (pos 0))) ∷ [])
    ∷ quietly ∷ tells (send 2 (Out.LoginAccepted 1 7) ∷ send 2 (Out.Balance (balance (pos 1558) (pos 3) (pos 0) (pos 0))) ∷ []) ∷ code 6
    ∷ tells (send 1 Out.Heartbeat ∷ []) ∷ quietly ∷ quietly ∷ quietly ∷ quietly ∷ tells (send 2 (Out.LoginRejected Login.BadCredentials) ∷ close 2
    ∷ []) ∷ quietly ∷ tells (send 1 (Out.Reject Reject.Throttled 63) ∷ []) ∷ tells (send 1 (Out.Logout Logout.SlowConsumer) ∷ close 1 ∷ []) ∷ quietly
    ∷ code 4 ∷ quietly ∷ quietly ∷ code 1 ∷ quietly ∷ code 9 ∷ code 4 ∷ quietly ∷ quietly ∷ []

abbrev start_3 : Started
start_3 =
    restore (pos 0) 4 (member 0 7 9 1 None ∷ member 1 8 2 0 (funds (pos 1276) (pos 9)) ∷ member 2 9 9 1 (funds (pos 238) (pos 13))
    ∷ []) (timing 1000000000 5000000000) (6 ∷ 0 ∷ 0 ∷ 0 ∷ 0 ∷ 0 ∷ 0 ∷ 0 ∷ 3 ∷ 99 ∷ 0 ∷ 0 ∷ 0 ∷ 0 ∷ 0 ∷ 0 ∷ 0 ∷ 2 ∷ 0 ∷ 0 ∷ 0 ∷ 1 ∷ 0 ∷ 0 ∷ 0 ∷ 252 ∷ 4
    ∷ 0 ∷ 0 ∷ 0 ∷ 0 ∷ 0 ∷ 0 ∷ 9 ∷ 0 ∷ 0 ∷ 0 ∷ 0 ∷ 0 ∷ 0 ∷ 0 ∷ 2 ∷ 0 ∷ 0 ∷ 0 ∷ 238 ∷ 0 ∷ 0 ∷ 0 ∷ 0 ∷ 0 ∷ 0 ∷ 0 ∷ 13 ∷ 0 ∷ 0 ∷ 0 ∷ 0 ∷ 0 ∷ 0 ∷ 0 ∷ 1 ∷ 0
    ∷ 0 ∷ 0 ∷ 6 ∷ 0 ∷ 0 ∷ 0 ∷ 0 ∷ 0 ∷ 0 ∷ 0 ∷ 0 ∷ 0 ∷ 0 ∷ 0 ∷ 15 ∷ 0 ∷ 0 ∷ 0 ∷ 0 ∷ 0 ∷ 0 ∷ 0 ∷ 2 ∷ 99 ∷ 0 ∷ 0 ∷ 0 ∷ 0 ∷ 0 ∷ 0 ∷ 0 ∷ 1 ∷ 0 ∷ 0 ∷ 0 ∷ 0
    ∷ 0 ∷ 0 ∷ 0 ∷ [])

abbrev calls_3 : List Call
calls_3 =
    []

abbrev seen_3 : List Seen
seen_3 =
    code 11 ∷ []

abbrev start_4 : Started
start_4 =
    set_up (pos 0) 4 1 (member 0 7 1 9 None ∷ member 1 8 3 2 (funds (pos 966) (pos 12)) ∷ member 2 9 2 2 None
    ∷ []) [] (timing 1000000000 5000000000)

abbrev calls_4 : List Call
calls_4 =
    set_paper_collar (Some 1) ∷ connect 1 0 ∷ receive_from 1 (In.Login 1 0 7) 2 1 ∷ disconnect 1
    ∷ replay_event 2 (Ev.Rested 3 Buy (pos 0) 9223372036854775808 2) ∷ deliver_event 2 (Ev.Trade 47 0 3 Buy (pos 102) 0 0 3) 999
    ∷ depth_levels Sell 999 ∷ receive_from 63 (In.Login 1 2 9) 2 0 ∷ detach 0 ∷ connect 0 5000000002 ∷ receive_from 0 (In.Login 1 5 0) 5177480169 999
    ∷ deliver_event 2 (Ev.Replenished 3 Sell (pos 102) 4) 999 ∷ publish 999 ∷ receive_from 0 (In.Login 1 3 0) 5177480169 999
    ∷ deliver_event 2 (Ev.Modified 1 (negsuc 0) 6 0) 999 ∷ deliver_event 2 (Ev.Trade 87 3 3 Sell (pos 99) 9223372036854775807 1 0) 999
    ∷ deliver_event 2 (Ev.Modified 1 (pos 100) 6 2) 999 ∷ deliver_event 2 (Ev.Rejected 3 Why.UnknownOrder) 999
    ∷ receive_from 0 (In.Login 1 1 8) 5177480172 999 ∷ deliver_event 2 (Ev.Cancelled 2 18446744073709551615 Gone.PriceBand) 0
    ∷ deliver_event 2 (Ev.Cancelled 0 5 Gone.MassCancel) 0 ∷ receive_from 0 (In.Login 1 2 9) 5177480174 0
    ∷ deliver_event 4 (Ev.Replenished 3 Sell (pos 100) 4611686018427387904) 999 ∷ deliver_event 2 (Ev.Cancelled 3 6 Gone.Requested) 999 ∷ take_batch 0
    ∷ take_batch 999 ∷ deliver_event 2 (Ev.PhaseChanged Phase.Closed) 999 ∷ checkpoint 45 ∷ []

abbrev seen_4 : List Seen
seen_4 =
    quietly ∷ quietly ∷ tells (send 1 (Out.LoginAccepted 0 1) ∷ []) ∷ quietly ∷ code 8 ∷ code 8 ∷ answers (levels_are []) ∷ quietly
    ∷ answers (account_was None) ∷ quietly ∷ tells (send 0 (Out.LoginRejected Login.BadCredentials) ∷ close 0 ∷ []) ∷ code 8 ∷ quietly ∷ quietly
    ∷ quietly ∷ code 8 ∷ quietly ∷ code 8 ∷ quietly ∷ quietly ∷ quietly ∷ quietly ∷ code 4 ∷ code 8 ∷ code 6 ∷ answers (commands (Cmd.CancelAll 0
    ∷ [])) ∷ quietly ∷ answers (bytes (2 ∷ 0 ∷ 0 ∷ 0 ∷ 0 ∷ 0 ∷ 0 ∷ 0 ∷ 0 ∷ 0 ∷ 0 ∷ 0 ∷ 0 ∷ 0 ∷ 0 ∷ 0 ∷ 0 ∷ 1 ∷ 0 ∷ 0 ∷ 0 ∷ 1 ∷ 0 ∷ 0 ∷ 0 ∷ 198 ∷ 3 ∷ 0
    ∷ 0 ∷ 0 ∷ 0 ∷ 0 ∷ 0 ∷ 12 ∷ 0 ∷ 0 ∷ 0 ∷ 0 ∷ 0 ∷ 0 ∷ 0 ∷ 0 ∷ 0 ∷ 0 ∷ 0 ∷ [])) ∷ []

abbrev start_5 : Started
start_5 =
    set_up (pos 0) 4 3 (member 0 7 9 9 (funds (pos 477) (pos 0)) ∷ member 1 8 9 0 (funds (pos 39) (pos 10))
    ∷ member 2 9 9 5 (funds (pos 1347) (pos 1)) ∷ []) [] (timing 1000000000 5000000000)

abbrev calls_5 : List Call
calls_5 =
    connect 1 3 ∷ receive_from 1 (In.Login 1 0 7) 1338757275 2 ∷ connect 2 2655043633 ∷ receive_from 2 (In.Login 1 1 8) 2655043633 2
    ∷ connect 3 2655043635 ∷ receive_from 3 (In.Login 1 2 9) 2655043638 2 ∷ publish 999
    ∷ receive_from 1 (In.NewOrder (order 46 Sell 4 (Kind.Limit (pos 101) Time.Ioc (Some 3)))) 2655043641 999
    ∷ receive_from 2 In.Subscribe 2383096001 1 ∷ receive_from 2 (In.NewOrder (order 26 Buy 6 (Kind.Limit (pos 98) Time.Fok None))) 2383096001 1
    ∷ wallet 3 ∷ receive_from 1 (In.Modify 2 (pos 102) 3) 3196315130 999 ∷ last_seq ∷ wallet 3
    ∷ receive_from 1 (In.NewOrder (order 27 Buy 1 (Kind.Limit (pos 100) Time.Gtc None))) 3243244768 999 ∷ receive_from 2 In.Logout 3243244769 999
    ∷ disconnect 1 ∷ deliver_event 4 (Ev.Cancelled 4 1 Gone.Requested) 0 ∷ deliver_event 4 (Ev.Modified 6 (pos 102) 3 3) 999
    ∷ deliver_event 5 (Ev.Trade 33 0 6 Sell (pos 99) 3 2 0) 999 ∷ deliver_event 4 (Ev.Trade 78 6 3 Sell (pos 1) 3 1 0) 999
    ∷ receive_from 3 (In.Modify 2 (pos 100) 3) 3260625072 999 ∷ receive_from 2 (In.Modify 1 (pos 97) 5) 3260625072 999
    ∷ receive_from 1 (In.Login 1 2 9) 3260625072 999 ∷ []

abbrev seen_5 : List Seen
seen_5 =
    quietly ∷ tells (send 1 (Out.LoginAccepted 0 3) ∷ send 1 (Out.Balance (balance (pos 477) (pos 0) (pos 0) (pos 0))) ∷ []) ∷ quietly
    ∷ tells (send 2 (Out.LoginAccepted 1 3) ∷ send 2 (Out.Balance (balance (pos 39) (pos 10) (pos 0) (pos 0))) ∷ []) ∷ quietly
    ∷ tells (send 3 (Out.LoginAccepted 2 3) ∷ send 3 (Out.Balance (balance (pos 1347) (pos 1) (pos 0) (pos 0))) ∷ []) ∷ quietly
    ∷ tells (send 1 (Out.Reject Reject.InsufficientFunds 46) ∷ []) ∷ tells (send 2 (Out.BookSnapshot 3 0) ∷ [])
    ∷ tells (send 2 (Out.Reject Reject.Throttled 26) ∷ []) ∷ answers (wallet_is None) ∷ tells (send 1 (Out.Reject Reject.NotAllowed 0) ∷ [])
    ∷ answers (number_is 3) ∷ answers (wallet_is None) ∷ quietly ∷ tells (send 2 (Out.Logout Logout.Requested) ∷ close 2 ∷ []) ∷ quietly ∷ quietly
    ∷ code 8 ∷ code 8 ∷ code 8 ∷ tells (send 3 (Out.Reject Reject.NotAllowed 0) ∷ []) ∷ quietly ∷ quietly ∷ []

abbrev start_6 : Started
start_6 =
    set_up (pos 0) 4 7 (member 0 7 9 9 None ∷ member 1 8 9 0 None ∷ member 2 9 9 2 None ∷ []) [] (timing 1000000000 5000000000)

abbrev calls_6 : List Call
calls_6 =
    set_paper_collar (Some 0) ∷ connect 1 2 ∷ receive_from 1 (In.Login 1 0 7) 5 999 ∷ receive_from 1 In.Subscribe 7 1 ∷ connect 2 0
    ∷ receive_from 2 (In.Login 1 1 8) 644763513 999 ∷ receive_from 2 In.Subscribe 644763515 999 ∷ depth_levels Buy 999 ∷ publish 0
    ∷ receive_from 2 (In.NewOrder (order 12 Sell 1 (Kind.Limit (pos 100) Time.PostOnly None))) 1527808794 999 ∷ tick 1527808794 999
    ∷ receive_from 2 (In.Cancel 0) 1748803968 999 ∷ receive_from 2 (In.Login 1 2 9) 1748803969 999 ∷ receive_from 2 (In.Cancel 4) 1748803972 1
    ∷ publish 999 ∷ publish 999 ∷ receive_from 1 (In.NewOrder (order 59 Sell 5 (Kind.Stop (pos 100) None))) 1748803972 0
    ∷ deliver_event 8 (Ev.Trade 33 8 8 Sell (pos 97) 3 2 2) 999 ∷ deliver_event 8 (Ev.Rested 8 Sell (pos 99) 5 5) 1
    ∷ deliver_event 8 (Ev.MassCancelled 2 0) 0 ∷ deliver_event 8 (Ev.Trade 9 8 8 Sell (pos 99) 5 0 0) 999
    ∷ deliver_event 8 (Ev.Modified 8 (pos 97) 6 6) 999 ∷ deliver_event 8 (Ev.Rejected 8 Why.UnknownOrder) 999
    ∷ deliver_event 8 (Ev.Trade 56 7 8 Buy (pos 99) 1 0 2) 999 ∷ take_batch 1 ∷ deliver_event 8 (Ev.PhaseChanged Phase.Closed) 2 ∷ checkpoint 24
    ∷ checkpoint 25 ∷ []

abbrev seen_6 : List Seen
seen_6 =
    quietly ∷ quietly ∷ tells (send 1 (Out.LoginAccepted 0 7) ∷ []) ∷ tells (send 1 (Out.BookSnapshot 7 0) ∷ []) ∷ quietly
    ∷ tells (send 2 (Out.LoginAccepted 1 7) ∷ []) ∷ tells (send 2 (Out.BookSnapshot 7 0) ∷ []) ∷ answers (levels_are []) ∷ quietly
    ∷ tells (send 2 (Out.Reject Reject.Throttled 12) ∷ []) ∷ tells (send 1 Out.Heartbeat ∷ []) ∷ tells (send 2 (Out.Reject Reject.Throttled 0) ∷ [])
    ∷ tells (send 2 (Out.LoginRejected Login.AlreadyInSession) ∷ []) ∷ tells (send 2 (Out.Reject Reject.Throttled 0) ∷ []) ∷ quietly ∷ quietly
    ∷ quietly ∷ code 8 ∷ tells (send 1 (Out.Report (report 8 8 59 (Report.Rested Sell (pos 99) 5 5))) ∷ []) ∷ quietly ∷ code 8
    ∷ tells (send 1 (Out.Report (report 8 8 59 (Report.Modified (pos 97) 6 6))) ∷ [])
    ∷ tells (send 1 (Out.Report (report 8 8 59 (Report.Rejected Why.UnknownOrder))) ∷ []) ∷ quietly
    ∷ answers (commands (Cmd.Stop 8 0 Sell (pos 100) None 5 ∷ [])) ∷ tells (send 1 (Out.Report (report 8 0 0 (Report.PhaseChanged Phase.Closed)))
    ∷ send 2 (Out.Report (report 8 0 0 (Report.PhaseChanged Phase.Closed))) ∷ []) ∷ code 6 ∷ answers (bytes (8 ∷ 0 ∷ 0 ∷ 0 ∷ 0 ∷ 0 ∷ 0 ∷ 0 ∷ 1 ∷ 99
    ∷ 0 ∷ 0 ∷ 0 ∷ 0 ∷ 0 ∷ 0 ∷ 0 ∷ 0 ∷ 0 ∷ 0 ∷ 0 ∷ 0 ∷ 0 ∷ 0 ∷ 0 ∷ [])) ∷ []

abbrev start_7 : Started
start_7 =
    set_up (pos 0) 4 2 (member 0 7 9 0 None ∷ member 1 8 2 9 None ∷ member 2 9 9 9 None ∷ []) [] (timing 5 0)

abbrev calls_7 : List Call
calls_7 =
    disconnect 64 ∷ connect 2 3 ∷ shut_down 999 ∷ tick 3 0 ∷ tick 4 999 ∷ tick 6 0 ∷ end_session 2 Logout.ProtocolError 0 ∷ tick 6 999 ∷ tick 9 0
    ∷ depth_levels Buy 0 ∷ tick 12 0 ∷ tick 12 0 ∷ receive_from 63 (In.Login 1 0 8) 15 0 ∷ receive_from 2 (In.Login 2 0 7) 18 999 ∷ tick 18 999
    ∷ receive_from 2 (In.Login 1 5 1) 21 999 ∷ receive_from 2 (In.Login 1 1 8) 24 999 ∷ disconnect 2 ∷ tick 27 0
    ∷ receive_from 2 (In.Login 1 3 0) 24 999 ∷ connect 0 26 ∷ tick 27 2 ∷ detach 0 ∷ connect 0 30 ∷ receive_from 0 (In.Login 1 2 9) 5000000030 1 ∷ []

abbrev seen_7 : List Seen
seen_7 =
    quietly ∷ quietly ∷ tells (send 2 (Out.Logout Logout.Shutdown) ∷ close 2 ∷ []) ∷ quietly ∷ quietly ∷ quietly ∷ quietly ∷ quietly ∷ quietly
    ∷ answers (levels_are []) ∷ quietly ∷ quietly ∷ quietly ∷ quietly ∷ quietly ∷ quietly ∷ quietly ∷ quietly ∷ quietly ∷ quietly ∷ quietly
    ∷ tells (send 0 (Out.Logout Logout.Idle) ∷ close 0 ∷ []) ∷ answers (account_was None) ∷ quietly ∷ tells (send 0 (Out.LoginAccepted 2 2) ∷ []) ∷ []

abbrev start_8 : Started
start_8 =
    restore (pos 0) 4 (member 0 7 9 9 None ∷ member 1 8 9 0 None ∷ member 2 9 9 2 None ∷ []) (timing 1000000000 5000000000) (8 ∷ 0 ∷ 0 ∷ 0 ∷ 0 ∷ 0
    ∷ 0 ∷ 0 ∷ 1 ∷ 99 ∷ 0 ∷ 0 ∷ 0 ∷ 0 ∷ 0 ∷ 0 ∷ 0 ∷ 0 ∷ 0 ∷ 0 ∷ 0 ∷ 0 ∷ 0 ∷ 0 ∷ 0 ∷ [])

abbrev calls_8 : List Call
calls_8 =
    replay_command 9 (Cmd.SetPhase Phase.Auction) ∷ replay_event 9 (Ev.Modified 0 (pos 98) 1 2)
    ∷ replay_command 10 (Cmd.Limit 10 3 Buy (pos 98) 3 Time.Ioc (Some 5)) ∷ replay_command 11 (Cmd.Modify 10 2 (pos 100) 3)
    ∷ replay_event 10 (Ev.Trade 18 10 10 Buy (pos 98) 2 1 1) ∷ set_paper_collar (Some 10)
    ∷ replay_command 12 (Cmd.Limit 12 1 Sell (pos 100) 6 Time.Ioc None) ∷ replay_event 9 (Ev.Cancelled 10 3 Gone.Requested)
    ∷ replay_event 10 (Ev.Trade 78 10 12 Buy (pos 98) 3 0 3) ∷ replay_command 13 (Cmd.Limit 12 1 Buy (pos 101) 4 Time.Gtc None)
    ∷ finish (L.Order 10 3 Buy (pos 98) 3 3 ∷ L.Order 12 1 Sell (pos 100) 6 6 ∷ []) ∷ publish 0 ∷ publish 999
    ∷ deliver_event 10 (Ev.Trade 4 10 12 Buy (pos 100) 3 0 3) 999 ∷ []

abbrev seen_8 : List Seen
seen_8 =
    quietly ∷ quietly ∷ quietly ∷ quietly ∷ code 8 ∷ quietly ∷ quietly ∷ code 8 ∷ code 8 ∷ code 8 ∷ quietly ∷ quietly ∷ quietly ∷ code 8 ∷ []

abbrev start_9 : Started
start_9 =
    set_up (pos 0) 4 0 (member 0 7 9 2 (funds (pos 1243) (negsuc 9223372036854775807)) ∷ member 1 8 2 0 (funds (pos 692) (pos 12))
    ∷ member 2 9 9 9 (funds (negsuc 9223372036854775807) (pos 13)) ∷ []) [] (timing 1000000000 5000000000)

abbrev calls_9 : List Call
calls_9 =
    connect 1 2 ∷ receive_from 1 (In.Login 1 0 7) 5 2 ∷ connect 2 866485732 ∷ receive_from 2 (In.Login 1 1 8) 866485732 2 ∷ publish 999
    ∷ add_account (member 3 10 9 9 None) ∷ wallet 0 ∷ deliver_event 1 (Ev.Replenished 0 Buy (negsuc 0) 4) 999 ∷ publish 999
    ∷ set_paper_collar (Some 0) ∷ publish 0
    ∷ receive_from 1 (In.NewOrder (order 34 Sell 4 (Kind.Limit (pos 2305843009213693952) Time.PostOnly None))) 866485734 0
    ∷ receive_from 1 (In.NewOrder (order 34 Sell 4 (Kind.Limit (pos 2305843009213693952) Time.PostOnly None))) 866485734 1
    ∷ deliver_event 1 (Ev.Trade 15 1 0 Buy (negsuc 9223372036854775807) 1 0 2) 999 ∷ receive_from 1 (In.Cancel 0) 866485735 0
    ∷ deliver_event 1 (Ev.Modified 0 (pos 1) 18446744073709551615 18446744073709551615) 0 ∷ wallet 1
    ∷ deliver_event 1 (Ev.Replenished 2 Buy (negsuc 0) 1) 999
    ∷ receive_from 2 (In.NewOrder (order 91 Buy 18446744073709551615 (Kind.Limit (pos 0) Time.PostOnly (Some 6)))) 866485737 1 ∷ wallet 87
    ∷ deliver_event 1 (Ev.Replenished 2 Sell (pos 98) 18446744073709551615) 999 ∷ deliver_event 1 (Ev.Modified 2 (pos 101) 1 1) 999 ∷ checkpoint 999
    ∷ deliver_event 1 (Ev.Rejected 1 Why.UnknownOrder) 999 ∷ publish 0 ∷ []

abbrev seen_9 : List Seen
seen_9 =
    quietly ∷ tells (send 1 (Out.LoginAccepted 0 0) ∷ send 1 (Out.Balance (balance (pos 1243) (negsuc 9223372036854775807) (pos 0) (pos 0))) ∷ [])
    ∷ quietly ∷ tells (send 2 (Out.LoginAccepted 1 0) ∷ send 2 (Out.Balance (balance (pos 692) (pos 12) (pos 0) (pos 0))) ∷ []) ∷ quietly ∷ quietly
    ∷ answers (wallet_is (Some (balance (pos 1243) (negsuc 9223372036854775807) (pos 0) (pos 0)))) ∷ code 4 ∷ quietly ∷ quietly ∷ quietly ∷ code 6
    ∷ tells (send 1 (Out.Reject Reject.InsufficientFunds 34) ∷ []) ∷ code 4 ∷ quietly ∷ quietly
    ∷ answers (wallet_is (Some (balance (pos 692) (pos 12) (pos 0) (pos 0)))) ∷ code 8 ∷ tells (send 2 (Out.Reject Reject.Throttled 91) ∷ [])
    ∷ answers (wallet_is None) ∷ code 8 ∷ code 8 ∷ code 10 ∷ tells (send 1 (Out.Report (report 1 1 0 (Report.Rejected Why.UnknownOrder))) ∷ [])
    ∷ quietly ∷ []

abbrev start_10 : Started
start_10 =
    set_up (pos 0) 4 5 (member 0 7 9 9 (funds (pos 962) (pos 11)) ∷ member 1 8 9 5 None ∷ member 2 9 9 9 None ∷ []) (L.Stop 4 0 Sell None 3
    ∷ L.Order 2 3 Buy (pos 101) 4 1 ∷ L.Stop 3 0 Buy (Some (pos 100)) 5 ∷ L.Order 1 3 Sell (pos 99) 18446744073709551615 18446744073709551615
    ∷ []) (timing 1000000000 5000000000)

abbrev calls_10 : List Call
calls_10 =
    connect 1 0 ∷ receive_from 1 (In.Login 1 0 7) 3 2 ∷ receive_from 1 (In.Login 1 0 7) 3 999 ∷ connect 2 5 ∷ receive_from 2 (In.Login 1 1 8) 5 0
    ∷ receive_from 2 (In.Login 1 1 8) 5 999 ∷ checkpoint 999 ∷ receive_from 2 (In.NewOrder (order 57 Buy 6 Kind.Market)) 8 0
    ∷ deliver_event 6 (Ev.Cancelled 1 18446744073709551615 Gone.PriceBand) 0 ∷ checkpoint 999
    ∷ deliver_event 6 (Ev.Trade 85 6 4 Buy (pos 100) 3 3 0) 999 ∷ receive_from 2 (In.Cancel 2) 11 0 ∷ publish 999 ∷ publish 999
    ∷ receive_from 1 (In.NewOrder (order 27 Sell 6 (Kind.Limit (pos 99) Time.PostOnly None))) 0 0 ∷ publish 999 ∷ last_seq
    ∷ deliver_event 6 (Ev.Rested 6 Buy (pos 102) 3 3) 999 ∷ deliver_event 6 (Ev.Trade 51 6 2 Buy (pos 101) 4 0 0) 999
    ∷ deliver_event 7 (Ev.PhaseChanged Phase.Closed) 999 ∷ deliver_event 7 (Ev.Replenished 6 Buy (pos 98) 1) 999 ∷ take_batch 2 ∷ take_batch 999
    ∷ receive_from 1 In.MassCancel 0 0 ∷ receive_from 2 (In.Cancel 8) 1134395477 0 ∷ deliver_event 8 (Ev.Rested 8 Sell (pos 99) 5 1) 0
    ∷ deliver_event 8 (Ev.Rested 8 Sell (pos 99) 5 1) 999 ∷ receive_from 1 (In.Cancel 3) 1134395475 999 ∷ take_batch 999
    ∷ deliver_event 11 (Ev.PhaseChanged Phase.Closed) 2 ∷ checkpoint 193 ∷ []

abbrev seen_10 : List Seen
seen_10 =
    quietly ∷ code 6 ∷ tells (send 1 (Out.LoginAccepted 0 5) ∷ send 1 (Out.Balance (balance (pos 962) (pos 11) (pos 500) (pos 0)))
    ∷ send 1 (Out.Report (report 5 3 0 (Report.Rested Buy (pos 100) 5 5))) ∷ []) ∷ quietly ∷ code 6 ∷ tells (send 2 (Out.LoginAccepted 1 5) ∷ [])
    ∷ answers (bytes (5 ∷ 0 ∷ 0 ∷ 0 ∷ 0 ∷ 0 ∷ 0 ∷ 0 ∷ 0 ∷ 0 ∷ 0 ∷ 0 ∷ 0 ∷ 0 ∷ 0 ∷ 0 ∷ 0 ∷ 1 ∷ 0 ∷ 0 ∷ 0 ∷ 0 ∷ 0 ∷ 0 ∷ 0 ∷ 194 ∷ 3 ∷ 0 ∷ 0 ∷ 0 ∷ 0 ∷ 0
    ∷ 0 ∷ 11 ∷ 0 ∷ 0 ∷ 0 ∷ 0 ∷ 0 ∷ 0 ∷ 0 ∷ 4 ∷ 0 ∷ 0 ∷ 0 ∷ 1 ∷ 0 ∷ 0 ∷ 0 ∷ 0 ∷ 0 ∷ 0 ∷ 0 ∷ 3 ∷ 0 ∷ 0 ∷ 0 ∷ 0 ∷ 0 ∷ 0 ∷ 0 ∷ 0 ∷ 0 ∷ 0 ∷ 0 ∷ 2 ∷ 99 ∷ 0
    ∷ 0 ∷ 0 ∷ 0 ∷ 0 ∷ 0 ∷ 0 ∷ 255 ∷ 255 ∷ 255 ∷ 255 ∷ 255 ∷ 255 ∷ 255 ∷ 255 ∷ 2 ∷ 0 ∷ 0 ∷ 0 ∷ 0 ∷ 0 ∷ 0 ∷ 0 ∷ 3 ∷ 0 ∷ 0 ∷ 0 ∷ 0 ∷ 0 ∷ 0 ∷ 0 ∷ 0 ∷ 0
    ∷ 0 ∷ 0 ∷ 3 ∷ 101 ∷ 0 ∷ 0 ∷ 0 ∷ 0 ∷ 0 ∷ 0 ∷ 0 ∷ 4 ∷ 0 ∷ 0 ∷ 0 ∷ 0 ∷ 0 ∷ 0 ∷ 0 ∷ 3 ∷ 0 ∷ 0 ∷ 0 ∷ 0 ∷ 0 ∷ 0 ∷ 0 ∷ 0 ∷ 0 ∷ 0 ∷ 0 ∷ 0 ∷ 0 ∷ 0 ∷ 0 ∷ 0
    ∷ 0 ∷ 0 ∷ 0 ∷ 3 ∷ 100 ∷ 0 ∷ 0 ∷ 0 ∷ 0 ∷ 0 ∷ 0 ∷ 0 ∷ 5 ∷ 0 ∷ 0 ∷ 0 ∷ 0 ∷ 0 ∷ 0 ∷ 0 ∷ 4 ∷ 0 ∷ 0 ∷ 0 ∷ 0 ∷ 0 ∷ 0 ∷ 0 ∷ 0 ∷ 0 ∷ 0 ∷ 0 ∷ 0 ∷ 0 ∷ 0 ∷ 0
    ∷ 0 ∷ 0 ∷ 0 ∷ 0 ∷ 0 ∷ 0 ∷ 0 ∷ 0 ∷ 0 ∷ 0 ∷ 0 ∷ 0 ∷ 0 ∷ 3 ∷ 0 ∷ 0 ∷ 0 ∷ 0 ∷ 0 ∷ 0 ∷ 0 ∷ [])) ∷ quietly ∷ quietly ∷ code 10
    ∷ tells (send 2 (Out.Report (report 6 6 57 (Report.Fill 85 Buy (pos 100) 3 3)))
    ∷ send 1 (Out.Report (report 6 4 0 (Report.Fill 85 Sell (pos 100) 3 0))) ∷ []) ∷ quietly
    ∷ tells (send 1 (Out.Balance (balance (pos 1262) (pos 8) (pos 500) (pos 0))) ∷ []) ∷ quietly ∷ quietly
    ∷ tells (send 1 (Out.Balance (balance (pos 1262) (pos 8) (pos 500) (pos 6))) ∷ []) ∷ answers (number_is 8)
    ∷ tells (send 2 (Out.Report (report 6 6 57 (Report.Rested Buy (pos 102) 3 3))) ∷ []) ∷ code 8
    ∷ tells (send 1 (Out.Report (report 7 0 0 (Report.PhaseChanged Phase.Closed)))
    ∷ send 2 (Out.Report (report 7 0 0 (Report.PhaseChanged Phase.Closed))) ∷ [])
    ∷ tells (send 2 (Out.Report (report 7 6 57 (Report.Replenished Buy (pos 98) 1))) ∷ []) ∷ code 6 ∷ answers (commands (Cmd.Market 6 1 Buy 6
    ∷ Cmd.Cancel 2 1 ∷ Cmd.Limit 8 0 Sell (pos 99) 6 Time.PostOnly None ∷ [])) ∷ quietly ∷ quietly ∷ code 6
    ∷ tells (send 1 (Out.Report (report 8 8 27 (Report.Rested Sell (pos 99) 5 1))) ∷ []) ∷ quietly ∷ answers (commands (Cmd.CancelAll 0
    ∷ Cmd.Cancel 8 1 ∷ Cmd.Cancel 3 0 ∷ [])) ∷ tells (send 1 (Out.Report (report 11 0 0 (Report.PhaseChanged Phase.Closed)))
    ∷ send 2 (Out.Report (report 11 0 0 (Report.PhaseChanged Phase.Closed))) ∷ []) ∷ answers (bytes (11 ∷ 0 ∷ 0 ∷ 0 ∷ 0 ∷ 0 ∷ 0 ∷ 0 ∷ 1 ∷ 100 ∷ 0 ∷ 0
    ∷ 0 ∷ 0 ∷ 0 ∷ 0 ∷ 0 ∷ 1 ∷ 0 ∷ 0 ∷ 0 ∷ 0 ∷ 0 ∷ 0 ∷ 0 ∷ 238 ∷ 4 ∷ 0 ∷ 0 ∷ 0 ∷ 0 ∷ 0 ∷ 0 ∷ 8 ∷ 0 ∷ 0 ∷ 0 ∷ 0 ∷ 0 ∷ 0 ∷ 0 ∷ 4 ∷ 0 ∷ 0 ∷ 0 ∷ 2 ∷ 0 ∷ 0
    ∷ 0 ∷ 0 ∷ 0 ∷ 0 ∷ 0 ∷ 3 ∷ 0 ∷ 0 ∷ 0 ∷ 0 ∷ 0 ∷ 0 ∷ 0 ∷ 0 ∷ 0 ∷ 0 ∷ 0 ∷ 3 ∷ 101 ∷ 0 ∷ 0 ∷ 0 ∷ 0 ∷ 0 ∷ 0 ∷ 0 ∷ 4 ∷ 0 ∷ 0 ∷ 0 ∷ 0 ∷ 0 ∷ 0 ∷ 0 ∷ 3 ∷ 0
    ∷ 0 ∷ 0 ∷ 0 ∷ 0 ∷ 0 ∷ 0 ∷ 0 ∷ 0 ∷ 0 ∷ 0 ∷ 0 ∷ 0 ∷ 0 ∷ 0 ∷ 0 ∷ 0 ∷ 0 ∷ 0 ∷ 3 ∷ 100 ∷ 0 ∷ 0 ∷ 0 ∷ 0 ∷ 0 ∷ 0 ∷ 0 ∷ 5 ∷ 0 ∷ 0 ∷ 0 ∷ 0 ∷ 0 ∷ 0 ∷ 0 ∷ 6
    ∷ 0 ∷ 0 ∷ 0 ∷ 0 ∷ 0 ∷ 0 ∷ 0 ∷ 1 ∷ 0 ∷ 0 ∷ 0 ∷ 57 ∷ 0 ∷ 0 ∷ 0 ∷ 0 ∷ 0 ∷ 0 ∷ 0 ∷ 1 ∷ 0 ∷ 0 ∷ 0 ∷ 0 ∷ 0 ∷ 0 ∷ 0 ∷ 0 ∷ 3 ∷ 0 ∷ 0 ∷ 0 ∷ 0 ∷ 0 ∷ 0 ∷ 0
    ∷ 8 ∷ 0 ∷ 0 ∷ 0 ∷ 0 ∷ 0 ∷ 0 ∷ 0 ∷ 0 ∷ 0 ∷ 0 ∷ 0 ∷ 27 ∷ 0 ∷ 0 ∷ 0 ∷ 0 ∷ 0 ∷ 0 ∷ 0 ∷ 2 ∷ 99 ∷ 0 ∷ 0 ∷ 0 ∷ 0 ∷ 0 ∷ 0 ∷ 0 ∷ 5 ∷ 0 ∷ 0 ∷ 0 ∷ 0 ∷ 0 ∷ 0
    ∷ 0 ∷ [])) ∷ []

abbrev start_11 : Started
start_11 =
    set_up (pos 0) 257 0 (member 0 7 2 9 None ∷ member 1 8 9 9 None ∷ member 2 9 9 2 None ∷ []) [] (timing 1000000000 5000000000)

abbrev calls_11 : List Call
calls_11 =
    []

abbrev seen_11 : List Seen
seen_11 =
    code 5 ∷ []

abbrev start_12 : Started
start_12 =
    set_up (pos 0) 4 7 (member 0 7 9 5 None ∷ member 1 8 3 0 (funds (pos 364) (negsuc 4)) ∷ member 2 9 9 9 (funds (pos 1219) (pos 17))
    ∷ []) [] (timing 4 12)

abbrev calls_12 : List Call
calls_12 =
    set_paper_collar (Some 0) ∷ replay_command 8 (Cmd.Limit 8 2 Buy (pos 99) 5 Time.Gtc None) ∷ replay_event 8 (Ev.Rested 8 Buy (pos 99) 5 3)
    ∷ replay_command 9 (Cmd.Limit 9 1 Buy (pos 102) 3 Time.Fok None) ∷ replay_event 8 (Ev.Rejected 8 Why.UnknownOrder)
    ∷ replay_event 9 (Ev.Rested 9 Buy (pos 102) 4611686018427387904 4611686018427387904) ∷ replay_command 10 (Cmd.Modify 9 0 (pos 98) 5)
    ∷ replay_event 10 (Ev.Modified 9 (pos 102) 1 4611686018427387903)
    ∷ replay_event 10 (Ev.Trade 50 9 9 Buy (pos 102) 5 4611686018427387898 4611686018427387898)
    ∷ replay_command 11 (Cmd.Limit 11 2 Sell (pos 99) 6 Time.PostOnly None) ∷ connect 2 0
    ∷ replay_command 12 (Cmd.Limit 12 0 Buy (pos 101) 4 Time.Gtc None) ∷ replay_event 10 (Ev.Rejected 11 Why.MarketClosed)
    ∷ replay_event 11 (Ev.Rested 11 Sell (pos 99) 6 6) ∷ replay_command 12 (Cmd.Limit 12 2 Buy (pos 100) 1 Time.PostOnly (Some 2))
    ∷ replay_event 11 (Ev.Trade 76 11 9 Sell (pos 102) 6 0 4611686018427387897) ∷ replay_event 10 (Ev.Modified 9 (pos 102) 6 0)
    ∷ replay_event 11 (Ev.Rested 11 Sell (pos 99) 1 1) ∷ replay_event 10 (Ev.Trade 48 9 11 Buy (pos 102) 6 4611686018427387897 0)
    ∷ replay_command 12 (Cmd.Limit 12 2 Sell (pos 101) 4 Time.Fok None) ∷ replay_event 10 (Ev.Trade 65 9 8 Sell (pos 99) 3 0 0)
    ∷ finish (L.Order 11 2 Sell (pos 99) 6 6 ∷ L.Order 9 1 Buy (pos 102) 4611686018427387903 4611686018427387903 ∷ []) ∷ connect 1 1
    ∷ receive_from 1 (In.Login 1 0 7) 2 1 ∷ connect 2 2 ∷ receive_from 2 (In.Login 1 1 8) 5 3 ∷ publish 999 ∷ []

abbrev seen_12 : List Seen
seen_12 =
    quietly ∷ quietly ∷ quietly ∷ quietly ∷ quietly ∷ quietly ∷ quietly ∷ quietly ∷ code 8 ∷ quietly ∷ quietly ∷ code 4 ∷ code 4 ∷ code 4 ∷ code 4
    ∷ code 4 ∷ code 4 ∷ code 4 ∷ code 4 ∷ code 4 ∷ code 4 ∷ quietly ∷ quietly ∷ tells (send 1 (Out.LoginAccepted 0 11) ∷ []) ∷ code 9
    ∷ tells (send 2 (Out.LoginAccepted 1 11) ∷ send 2 (Out.Balance (balance (pos 364) (negsuc 4) (pos 0) (pos 0)))
    ∷ send 2 (Out.Report (report 11 9 0 (Report.Rested Buy (pos 102) 4611686018427387903 4611686018427387903))) ∷ []) ∷ quietly ∷ []

abbrev table : List (List Seen × List Seen)
table =
    (run_from start_0 calls_0, seen_0) ∷ (run_from start_1 calls_1, seen_1) ∷ (run_from start_2 calls_2, seen_2)
    ∷ (run_from start_3 calls_3, seen_3) ∷ (run_from start_4 calls_4, seen_4) ∷ (run_from start_5 calls_5, seen_5)
    ∷ (run_from start_6 calls_6, seen_6) ∷ (run_from start_7 calls_7, seen_7) ∷ (run_from start_8 calls_8, seen_8)
    ∷ (run_from start_9 calls_9, seen_9) ∷ (run_from start_10 calls_10, seen_10) ∷ (run_from start_11 calls_11, seen_11)
    ∷ (run_from start_12 calls_12, seen_12) ∷ []

-- each list of calls gives what the Rust gave
abbrev pub FromRust : Type 0
FromRust = Each (λ row. row.0 ≡ row.1) table
