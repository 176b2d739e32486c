use Rattle.script.proofs.Laws.{laws}
use Rattle.script.proofs.new_order.Goals as goal

pub returns : goal.returns
returns c = search laws
