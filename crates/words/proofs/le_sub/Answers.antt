use Rattle.words.proofs.Laws.{laws}
use Rattle.words.proofs.le_sub.Goals as goal

pub returns : goal.returns
returns c = search laws
