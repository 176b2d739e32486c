use Rattle.saved.proofs.Laws.{laws}
use Rattle.saved.proofs.order.Goals as goal

pub returns : goal.returns
returns c = search laws
