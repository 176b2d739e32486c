use Rattle.live.proofs.Laws.{retire_is}
use Rattle.live.proofs.end.Goals as goal

pub returns : goal.returns
returns c =
    retire_is _ _ _ _ _ c.requires.2 c.get-open.ensures c.side_of.ensures c.retire.ensures c.set.ensures c.shift.ensures
