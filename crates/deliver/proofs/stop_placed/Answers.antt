use Rattle.deliver.proofs.Events.{as_stop_placed}
use Rattle.deliver.proofs.stop_placed.Goals as goal

pub returns : goal.returns
returns c =
    let p = c.price-trigger in
    as_stop_placed _ _ _ _ _ _ _ _ _ _ _ _ c.word-id.ensures c.side-side.ensures p.ensures p.type_inv c.maybe_price-limit.ensures c.word.ensures c.stop_placed.ensures
