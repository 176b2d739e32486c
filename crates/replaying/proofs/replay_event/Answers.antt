use Rattle.replaying.proofs.Laws.{laws}
use Rattle.replaying.proofs.replay_event.Goals as goal

pub returns : goal.returns
returns c = search laws
