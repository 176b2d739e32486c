-- Delivering an event: whom it is reported to, which wallets it notices, and what it leaves to be published (`deliver` of exchange.rs).
use Rattle.std.specs.Prelude.{ℕ, cond, List, [], ◌∷◌, ◌++◌, ℤ, pos, ◌-ℤ◌, length, leb, Option, Some, None, is_some}
use Rattle.orderbook.specs.Types.{opposite_of}
use Rattle.orderbook.specs.declared.Event.{Event}
use Rattle.orderbook.specs.declared.Event.TheVariants.{Accepted, Rejected, Trade, Rested, Replenished, Cancelled, Modified, StopPlaced, Triggered, MassCancelled, PhaseChanged}
use Rattle.protocol.specs.declared.Report.{Report}
use Rattle.protocol.specs.declared.ReportKind.{ReportKind}
use Rattle.protocol.specs.declared.ReportKind.TheVariants as Kind
use Rattle.protocol.specs.declared.TradeTick.{TradeTick}
use Rattle.gateway.specs.Basics.{option}
use Rattle.gateway.specs.Limits.{most_trades, most_notices, full, outside, inconsistent}
use Rattle.gateway.specs.Ledger.{Order, Ledger, Change, mark_by, fill, set_leaves, reprice, retire, change, changes, event, find, wallet_of, hold, order_hold}
use Rattle.gateway.specs.Core.{Tests, Flight, Core, system, drop_below, event_tests, fits_after}
use Rattle.gateway.specs.Depth.{apply, depth_agrees, levels_fit, depth_few}
use Rattle.gateway.specs.Rest.{Mail, Rest, with_delivered, pending, session_at, session_of, logged_in, report, report_to, each_session}
use Rattle.gateway.specs.Entry.{Plan, records, is_zero}

-- ---- reports

abbrev pub about : ℕ → ℕ → ℕ → ReportKind → Report
about n i ref k = record { seq = n; order_id = i; client_ref = ref; kind = k }

-- to the session of the account that owns the live order i (`tell_owner`)
abbrev pub tell_owner : ℕ → ℕ → ReportKind → Core → Rest → List Mail
tell_owner n i k c r =
    option [] (λ o. report_to (session_of o.account r) (about n i o.client_ref k) r) (find i c.ledger.orders)

-- the client reference of a refused new order
abbrev pub refused_ref : Flight → Option Order → ℕ
refused_ref f o = cond f.places (option 0 (λ x. x.client_ref) o) 0

-- to the sender alone, and only while the session is still that account's
abbrev pub tell_sender : ℕ → ℕ → ReportKind → Core → Rest → List Flight → List Mail
tell_sender n i k c r [] = []
tell_sender n i k c r (f ∷ fs) =
    option []
    (λ s. cond (logged_in f.owner (session_at s r)) (report s (about n i (refused_ref f (find i c.ledger.orders)) k) r) [])
    f.session

-- a trade's taker is reported before its maker; each fill names the event's side, which need not be the order's
unfoldable pub reports : ℕ → Event → Core → Rest → List Mail
reports n (Accepted i) c r = tell_owner n i Kind.Accepted c r
reports n (Rejected i why) c r = tell_sender n i (Kind.Rejected why) c r (drop_below n c.flights)
reports n (Trade t taker maker s p q tl ml) c r =
    tell_owner n taker (Kind.Fill t s p q tl) c r ++ tell_owner n maker (Kind.Fill t (opposite_of s) p q ml) c r
reports n (Rested i s p q v) c r = tell_owner n i (Kind.Rested s p q v) c r
reports n (Replenished i s p v) c r = tell_owner n i (Kind.Replenished s p v) c r
reports n (Cancelled i q why) c r = tell_owner n i (Kind.Cancelled q why) c r
reports n (Modified i p q v) c r = tell_owner n i (Kind.Modified p q v) c r
reports n (StopPlaced i s t l q) c r = tell_owner n i (Kind.StopPlaced s t l q) c r
reports n (Triggered i) c r = tell_owner n i Kind.Triggered c r
reports n (MassCancelled o k) c r = report_to (session_of o r) (about n 0 0 (Kind.MassCancelled k)) r
reports n (PhaseChanged p) c r = each_session (λ s x. report s (about n 0 0 (Kind.PhaseChanged p)) r) r

-- ---- wallet notices

-- account a's hold went from one amount to another
abbrev pub hold_notice : ℕ → ℤ → ℤ → List ℕ
hold_notice a old new = cond (is_zero (new -ℤ old)) [] (a ∷ [])

-- what order o holds once x has happened to it: a fill leaves it its own price
abbrev pub hold_after : ℤ → Change → Order → ℤ
hold_after fee (mark_by t m p) o = order_hold fee o
hold_after fee (fill n p q v) o = hold fee o.side o.price v
hold_after fee (set_leaves n v) o = hold fee o.side o.price v
hold_after fee (reprice n p v) o = hold fee o.side (Some p) v
hold_after fee (retire n) o = pos 0

-- what is noticed of order o, whose account has a wallet: settling, and a hold that changes
abbrev pub order_notices : ℤ → Change → Order → List ℕ
order_notices fee (mark_by t m p) o = []
order_notices fee (fill n p q v) o = o.account ∷ hold_notice o.account (order_hold fee o) (hold fee o.side o.price v)
order_notices fee (set_leaves n v) o = hold_notice o.account (order_hold fee o) (hold fee o.side o.price v)
order_notices fee (reprice n p v) o = hold_notice o.account (order_hold fee o) (hold fee o.side (Some p) v)
order_notices fee (retire n) o = hold_notice o.account (order_hold fee o) (pos 0)

-- the order that a change names
abbrev pub named : Change → List Order → Option Order
named (mark_by t m p) os = None
named (fill n p q v) os = find n os
named (set_leaves n v) os = find n os
named (reprice n p v) os = find n os
named (retire n) os = find n os

abbrev pub change_notices : Change → Ledger → List ℕ
change_notices x l = option [] (λ o. cond (is_some (wallet_of l.wallets o)) (order_notices l.fee x o) []) (named x l.orders)

abbrev pub notices_of : List Change → Ledger → List ℕ
notices_of [] l = []
notices_of (x ∷ xs) l = change_notices x l ++ notices_of xs (change x l)

-- ---- trades

unfoldable pub tick_of : ℕ → Event → List TradeTick
tick_of n (Trade t taker maker s p q tl ml) = record { seq = n; trade_id = t; side = s; price = p; qty = q } ∷ []
tick_of n (Accepted i) = []
tick_of n (Rejected i why) = []
tick_of n (Rested i s p q v) = []
tick_of n (Replenished i s p v) = []
tick_of n (Cancelled i q why) = []
tick_of n (Modified i p q v) = []
tick_of n (StopPlaced i s t l q) = []
tick_of n (Triggered i) = []
tick_of n (MassCancelled o k) = []
tick_of n (PhaseChanged p) = []

-- ---- the call

abbrev pub rest_after : ℕ → Event → Core → Rest → Rest
rest_after n e c r =
    with_delivered n (pending (apply e r.depth) (r.trades ++ tick_of n e) (r.notices ++ notices_of (changes n e) c.ledger) r)

abbrev pub feed_tests : ℕ → Event → Core → Rest → Tests ℕ
feed_tests n e c r =
    let after = rest_after n e c r in
    (inconsistent, depth_agrees e r.depth)
    ∷ (outside, fits_after (event n e) c)
    ∷ (outside, levels_fit after.depth.resting)
    ∷ (full, depth_few after.depth)
    ∷ (full, leb (length after.trades) most_trades)
    ∷ (full, leb (length after.notices) most_notices)
    ∷ []

abbrev pub deliver_tests : ℕ → Event → Core → Rest → Tests ℕ
deliver_tests n e c r = event_tests n e c ++ feed_tests n e c r

abbrev pub deliver : ℕ → Event → Core → Rest → Plan
deliver n e c r = records system (event n e) (reports n e c r) (rest_after n e c r)
