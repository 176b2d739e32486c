use Rattle.saved.proofs.Laws.{laws}
use Rattle.saved.proofs.number.Goals as goal

pub returns : goal.returns
returns c = search laws
