use Rattle.risk.proofs.Laws.{laws}
use Rattle.risk.proofs.near.Goals as goal

pub returns : goal.returns
returns c = search laws
