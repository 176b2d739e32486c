use Rattle.deliver.proofs.Events.{as_rested}
use Rattle.deliver.proofs.rested.Goals as goal

pub returns : goal.returns
returns c =
    let p = c.price-price in
    as_rested _ _ _ _ _ _ _ _ _ _ _ _ c.word-id.ensures c.side-side.ensures p.ensures p.type_inv c.word.ensures c.word-2.ensures c.rested.ensures
