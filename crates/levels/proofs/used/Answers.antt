use Rattle.levels.proofs.Laws.{laws}
use Rattle.levels.proofs.used.Goals as goal

pub returns : goal.returns
returns c = search laws
