use Rattle.player.proofs.Laws.{laws}
use Rattle.player.proofs.begin.Goals as goal

pub returns : goal.returns
returns c = search laws
