use Rattle.replaying.proofs.Laws.{laws}
use Rattle.replaying.proofs.take_batch.Goals as goal

pub returns : goal.returns
returns c = search laws
