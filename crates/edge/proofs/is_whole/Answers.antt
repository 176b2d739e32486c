use Rattle.edge.proofs.Laws.{laws}
use Rattle.edge.proofs.is_whole.Goals as goal

pub returns-then-ok : goal.returns-then-ok
returns-then-ok c = search laws

pub returns : goal.returns
returns c = search laws
