use Rattle.stored.proofs.Laws.{laws}
use Rattle.stored.proofs.grow.Goals as goal

pub returns-then-grows : goal.returns-then-grows
returns-then-grows c = search laws

pub returns-else-grows : goal.returns-else-grows
returns-else-grows c = search laws
