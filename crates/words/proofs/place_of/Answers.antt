use Rattle.words.proofs.Laws.{laws}
use Rattle.words.proofs.place_of.Goals as goal

pub returns : goal.returns
returns c = search laws
