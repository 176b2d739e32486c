use Rattle.pending.proofs.Laws.{land_is}
use Rattle.pending.proofs.land.Goals as goal

pub returns : goal.returns
returns c =
    land_is c.requires.0 _ _ c.get-last.ensures c.requires.1 c.set.ensures
