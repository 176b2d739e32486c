use Rattle.outcome.proofs.Laws.{laws}
use Rattle.outcome.proofs.end.Goals as goal

pub returns : goal.returns
returns c = search laws
