use Rattle.replaying.proofs.Laws.{laws}
use Rattle.replaying.proofs.checkpoint.Goals as goal

pub returns : goal.returns
returns c = search laws
