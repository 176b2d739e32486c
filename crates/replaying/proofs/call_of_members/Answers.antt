use Rattle.replaying.proofs.Laws.{laws}
use Rattle.replaying.proofs.call_of_members.Goals as goal

pub returns-in-0 : goal.returns-in-0
returns-in-0 c = search laws

pub returns-in-1 : goal.returns-in-1
returns-in-1 c = search laws

pub returns-in_default : goal.returns-in_default
returns-in_default c = search laws
