use Rattle.pending.proofs.Keys.{key_by_side, key_by_price}
use Rattle.pending.proofs.changed.is_at.Goals as goal

pub returns-then-same_price : goal.returns-then-same_price
returns-then-same_price c =
    key_by_side c.args.m.now c.args.i c.args.side c.args.price _ _ c.get.ensures c.same_price.ensures _ _ c.if-same_price.true c.get-then-same_price.ensures c.same_side.ensures

pub returns-else-same_price : goal.returns-else-same_price
returns-else-same_price c =
    key_by_price c.args.m.now c.args.i c.args.side c.args.price _ _ c.get.ensures c.same_price.ensures c.if-same_price.false
