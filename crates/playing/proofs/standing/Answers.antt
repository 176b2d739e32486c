use Rattle.playing.proofs.Laws.{laws}
use Rattle.playing.proofs.standing.Goals as goal

pub returns : goal.returns
returns c = search laws
