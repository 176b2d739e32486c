use Rattle.stored.proofs.Laws.{laws}
use Rattle.stored.proofs.put.Goals as goal

pub returns-then-i-lt16 : goal.returns-then-i-lt16
returns-then-i-lt16 c = search laws

pub returns-else-i-lt16 : goal.returns-else-i-lt16
returns-else-i-lt16 c = search laws
