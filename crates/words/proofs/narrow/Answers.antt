use Rattle.words.proofs.Laws.{laws}
use Rattle.words.proofs.narrow.Goals as goal

pub returns-then-s-ne0 : goal.returns-then-s-ne0
returns-then-s-ne0 c = search laws

pub returns-then-s : goal.returns-then-s
returns-then-s c = search laws

pub returns-else-s : goal.returns-else-s
returns-else-s c = search laws
