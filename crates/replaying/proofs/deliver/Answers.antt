use Rattle.replaying.proofs.Laws.{laws}
use Rattle.replaying.proofs.deliver.Goals as goal

pub returns : goal.returns
returns c = search laws
