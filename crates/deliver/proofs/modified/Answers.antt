use Rattle.deliver.proofs.Events.{as_modified}
use Rattle.deliver.proofs.modified.Goals as goal

pub returns : goal.returns
returns c =
    let p = c.price-price in
    as_modified _ _ _ _ _ _ _ _ _ _ _ c.word-id.ensures p.ensures p.type_inv c.word-qty.ensures c.word.ensures c.modified.ensures
