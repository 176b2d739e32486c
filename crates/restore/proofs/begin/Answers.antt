use Rattle.restore.proofs.Laws.{laws}
use Rattle.restore.proofs.begin.Goals as goal

pub refill-requires : goal.refill-requires
refill-requires c = search laws

pub returns : goal.returns
returns c = search laws
