use Rattle.words.proofs.Laws.{laws}
use Rattle.words.proofs.wide_le.Goals as goal

pub returns-then-a-b : goal.returns-then-a-b
returns-then-a-b c = search laws

pub returns-then-b-a : goal.returns-then-b-a
returns-then-b-a c = search laws

pub returns-else-b-a : goal.returns-else-b-a
returns-else-b-a c = search laws
