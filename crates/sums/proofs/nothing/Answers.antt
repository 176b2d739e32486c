use Rattle.sums.proofs.Laws.{laws}
use Rattle.sums.proofs.nothing.Goals as goal

pub returns : goal.returns
returns c = search laws
