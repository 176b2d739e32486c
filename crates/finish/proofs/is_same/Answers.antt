use Rattle.finish.proofs.Laws.{laws}
use Rattle.finish.proofs.is_same.Goals as goal

pub returns-then-e-ne0 : goal.returns-then-e-ne0
returns-then-e-ne0 c = search laws

pub returns-then-o-e : goal.returns-then-o-e
returns-then-o-e c = search laws

pub returns : goal.returns
returns c = search laws
