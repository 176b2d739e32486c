use Rattle.pending.proofs.Laws.{take_off_is}
use Rattle.pending.proofs.take_off.Goals as goal

pub returns : goal.returns
returns c =
    take_off_is c.requires.0 _ _ _ _ _ c.get-next.ensures c.get-flying.ensures c.fill.ensures c.set.ensures c.set-2.ensures
