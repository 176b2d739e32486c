use Rattle.pending.proofs.Laws.{published_is}
use Rattle.pending.proofs.set_published.Goals as goal

pub returns : goal.returns
returns c =
    published_is c.requires _ _ c.get-delivered.ensures c.get-n.ensures c.forget_tops.ensures c.set.ensures c.set-2.ensures c.set-3.ensures c.set-4.ensures
