use Rattle.refill.proofs.Laws.{laws}
use Rattle.refill.proofs.mark.Goals as goal

pub returns-then-r-ne0 : goal.returns-then-r-ne0
returns-then-r-ne0 c = search laws

pub returns-else-r-ne0 : goal.returns-else-r-ne0
returns-else-r-ne0 c = search laws
