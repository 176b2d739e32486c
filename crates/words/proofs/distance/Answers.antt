use Rattle.words.proofs.Laws.{laws}
use Rattle.words.proofs.distance.Goals as goal

pub returns : goal.returns
returns c = search laws
