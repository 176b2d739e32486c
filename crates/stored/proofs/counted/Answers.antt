use Rattle.stored.proofs.Laws.{laws}
use Rattle.stored.proofs.counted.Goals as goal

pub returns-then-begins : goal.returns-then-begins
returns-then-begins c = search laws

pub returns : goal.returns
returns c = search laws
