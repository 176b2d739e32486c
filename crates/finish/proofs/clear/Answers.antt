use Rattle.finish.proofs.Laws.{laws}
use Rattle.finish.proofs.clear.Goals as goal

pub returns : goal.returns
returns c = search laws
