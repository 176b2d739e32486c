use Rattle.finish.proofs.Laws.{laws}
use Rattle.finish.proofs.unrest.Goals as goal

pub returns : goal.returns
returns c = search laws
