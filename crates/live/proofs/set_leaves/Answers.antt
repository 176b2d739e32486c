use Rattle.live.proofs.Changes.{reads, row_fits, hold_as, needs_met, set_leaves_becomes}
use Rattle.live.proofs.set_leaves.Goals as goal

pub live_at-o-requires : goal.live_at-o-requires
live_at-o-requires c = let p = c.requires in row_fits p.0 p.1

pub revise-requires : goal.revise-requires
revise-requires c =
    let p = c.requires in
    let a = reads p.1 c.live_at-o.ensures in
    let n = needs_met p.0 a in
    (n.0, n.1, n.2, hold_as a (λ o. o.priced) (λ o. o.price) _ _ p.2)

pub returns : goal.returns
returns c =
    let p = c.requires in
    set_leaves_becomes p.0 (reads p.1 c.live_at-o.ensures) _ c.revise.ensures
