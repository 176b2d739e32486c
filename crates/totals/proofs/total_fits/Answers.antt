use Rattle.totals.proofs.Laws.{none_summed, sum_room, order_inside, more_summed, sum_small, total_is}
use Rattle.totals.proofs.total_fits.Goals as goal

pub loop-j-init : goal.loop-j-init
loop-j-init c =
    let k = c.count-n.ensures in
    (k.0, k.1, none_summed _ _ _ _ _ k.0 k.1 _ c.nothing-s.ensures)

pub order_at-o-requires : goal.order_at-o-requires
order_at-o-requires c =
    let i = c.loop-j.invariant in
    (c.requires, order_inside _ _ _ _ _ i.0 i.1 _ _ i.2 c.loop-j-test.true)

pub add-s-requires : goal.add-s-requires
add-s-requires c =
    let i = c.loop-j.invariant in
    sum_room _ _ _ _ _ i.0 i.1 _ _ i.2

pub loop-j-preserved : goal.loop-j-preserved
loop-j-preserved c =
    let i = c.loop-j.invariant in
    (i.0, i.1, more_summed _ _ _ _ _ i.0 i.1 _ _ i.2 _ _ _ c.loop-j-test.true c.order_at-o.ensures c.held_by.ensures c.add-s.ensures)

pub is_fit-requires : goal.is_fit-requires
is_fit-requires c =
    let i = c.loop-j.invariant in
    sum_small _ _ _ _ _ i.0 i.1 _ _ i.2 c.loop-j-test.false

pub returns : goal.returns
returns c =
    let i = c.loop-j.invariant in
    total_is _ _ _ _ _ i.0 i.1 _ _ i.2 _ c.loop-j-test.false c.is_fit.ensures
