use Rattle.replaying.proofs.Laws.{laws}
use Rattle.replaying.proofs.call.Goals as goal

pub returns : goal.returns
returns c = search laws
