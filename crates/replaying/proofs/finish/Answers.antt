use Rattle.replaying.proofs.Laws.{laws}
use Rattle.replaying.proofs.finish.Goals as goal

pub returns : goal.returns
returns c = search laws
