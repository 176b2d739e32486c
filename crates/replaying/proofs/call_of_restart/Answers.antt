use Rattle.replaying.proofs.Laws.{laws}
use Rattle.replaying.proofs.call_of_restart.Goals as goal

pub returns-in-16 : goal.returns-in-16
returns-in-16 c = search laws

pub returns-in-17 : goal.returns-in-17
returns-in-17 c = search laws

pub returns-in-18 : goal.returns-in-18
returns-in-18 c = search laws

pub returns-in_default : goal.returns-in_default
returns-in_default c = search laws
