use Rattle.script.proofs.Laws.{laws}
use Rattle.script.proofs.price.Goals as goal

pub returns : goal.returns
returns c = search laws
