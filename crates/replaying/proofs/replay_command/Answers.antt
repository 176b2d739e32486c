use Rattle.replaying.proofs.Laws.{laws}
use Rattle.replaying.proofs.replay_command.Goals as goal

pub returns : goal.returns
returns c = search laws
