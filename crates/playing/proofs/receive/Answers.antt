use Rattle.playing.proofs.Laws.{laws}
use Rattle.playing.proofs.receive.Goals as goal

pub returns : goal.returns
returns c = search laws
