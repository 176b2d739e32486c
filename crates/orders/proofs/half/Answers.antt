use Rattle.orders.proofs.Laws.{laws}
use Rattle.orders.proofs.half.Goals as goal

pub returns-then-get-eq0 : goal.returns-then-get-eq0
returns-then-get-eq0 c = search laws
