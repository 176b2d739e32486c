use Rattle.stored.proofs.Laws.{laws}
use Rattle.stored.proofs.is_given.Goals as goal

pub returns-in-0 : goal.returns-in-0
returns-in-0 c = search laws

pub returns-in_default : goal.returns-in_default
returns-in_default c = search laws
