use Rattle.deliver.proofs.Events.{as_traded}
use Rattle.deliver.proofs.trade.Goals as goal

pub returns : goal.returns
returns c =
    let p = c.price-price in
    as_traded _ _ _ _ _ _ _ _ _ _ _ _ _ _ _ c.word.ensures c.word-2.ensures c.word-3.ensures c.side-side.ensures p.ensures p.type_inv c.word-4.ensures c.word-5.ensures c.word-6.ensures c.trade.ensures
