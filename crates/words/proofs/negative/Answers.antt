use Rattle.words.proofs.Laws.{laws}
use Rattle.words.proofs.negative.Goals as goal

pub returns-then-n-le-HALF : goal.returns-then-n-le-HALF
returns-then-n-le-HALF c = search laws

pub returns-else-n-le-HALF : goal.returns-else-n-le-HALF
returns-else-n-le-HALF c = search laws
