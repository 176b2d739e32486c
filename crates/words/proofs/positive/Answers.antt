use Rattle.words.proofs.Laws.{laws}
use Rattle.words.proofs.positive.Goals as goal

pub returns-then-n-lt-HALF : goal.returns-then-n-lt-HALF
returns-then-n-lt-HALF c = search laws

pub returns-else-n-lt-HALF : goal.returns-else-n-lt-HALF
returns-else-n-lt-HALF c = search laws
