use Rattle.risk.proofs.Laws.{laws}
use Rattle.risk.proofs.green.Goals as goal

pub returns : goal.returns
returns c = search laws
