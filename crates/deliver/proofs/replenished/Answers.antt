use Rattle.deliver.proofs.Events.{as_replenished}
use Rattle.deliver.proofs.replenished.Goals as goal

pub returns : goal.returns
returns c =
    let p = c.price-price in
    as_replenished _ _ _ _ _ _ _ _ _ _ _ c.word-id.ensures c.side-side.ensures p.ensures p.type_inv c.word.ensures c.replenished.ensures
