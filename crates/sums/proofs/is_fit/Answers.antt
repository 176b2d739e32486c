use Rattle.sums.proofs.Laws.{laws}
use Rattle.sums.proofs.is_fit.Goals as goal

pub returns-then-count-top : goal.returns-then-count-top
returns-then-count-top c = search laws

pub returns : goal.returns
returns c = search laws
