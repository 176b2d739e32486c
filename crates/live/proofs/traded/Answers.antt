use Rattle.live.proofs.Changes.{reads, row_fits, hold_as, needs_met, paid, pay_becomes, pay_at, hold_paid, traded_becomes}
use Rattle.live.proofs.traded.Goals as goal

pub live_at-o-requires : goal.live_at-o-requires
live_at-o-requires c = let p = c.requires in row_fits p.0 p.1

pub pay-requires : goal.pay-requires
pay-requires c =
    let p = c.requires in
    let n = needs_met p.0 (reads p.1 c.live_at-o.ensures) in
    (n.0, n.2)

pub leave-requires : goal.leave-requires
leave-requires c =
    let p = c.requires in
    let a = reads p.1 c.live_at-o.ensures in
    let h = paid p.0 a _ _ _ c.side_of.ensures c.pay.ensures in
    let n = needs_met (pay_becomes p.0 a _ _ h).becomes.state (pay_at p.0 a _ _ h) in
    (n.0, n.1, n.2, n.3, n.4, n.5, hold_paid p.0 a _ _ h _ _ _ _ (hold_as a (λ o. o.priced) (λ o. o.price) _ _ p.2))

pub returns : goal.returns
returns c =
    let p = c.requires in
    let a = reads p.1 c.live_at-o.ensures in
    traded_becomes p.0 a _ _ _ (paid p.0 a _ _ _ c.side_of.ensures c.pay.ensures) c.leave.ensures
