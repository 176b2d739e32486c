use Rattle.words.proofs.Laws.{laws}
use Rattle.words.proofs.at_most.Goals as goal

pub returns-then-b : goal.returns-then-b
returns-then-b c = search laws

pub returns-else-b : goal.returns-else-b
returns-else-b c = search laws

pub returns-then-b-2 : goal.returns-then-b-2
returns-then-b-2 c = search laws

pub returns-else-b-2 : goal.returns-else-b-2
returns-else-b-2 c = search laws
