use Rattle.levels.proofs.Laws.{laws}
use Rattle.levels.proofs.grown.Goals as goal

pub returns-then-d-n : goal.returns-then-d-n
returns-then-d-n c = search laws

pub returns-else-d-n : goal.returns-else-d-n
returns-else-d-n c = search laws
