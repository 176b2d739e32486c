use Rattle.totals.proofs.Laws.{laws}
use Rattle.totals.proofs.held_by.Goals as goal

pub returns-then-is_of : goal.returns-then-is_of
returns-then-is_of c = search laws

pub returns : goal.returns
returns c = search laws
