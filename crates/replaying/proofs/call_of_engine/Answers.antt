use Rattle.replaying.proofs.Laws.{laws}
use Rattle.replaying.proofs.call_of_engine.Goals as goal

pub returns-in-12 : goal.returns-in-12
returns-in-12 c = search laws

pub returns-in-13 : goal.returns-in-13
returns-in-13 c = search laws

pub returns-in-14 : goal.returns-in-14
returns-in-14 c = search laws

pub returns-in-15 : goal.returns-in-15
returns-in-15 c = search laws
