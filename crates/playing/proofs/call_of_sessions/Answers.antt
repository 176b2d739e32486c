use Rattle.playing.proofs.Laws.{laws}
use Rattle.playing.proofs.call_of_sessions.Goals as goal

pub returns-in-7 : goal.returns-in-7
returns-in-7 c = search laws

pub returns-in-8 : goal.returns-in-8
returns-in-8 c = search laws

pub returns-in-9 : goal.returns-in-9
returns-in-9 c = search laws

pub returns-in-10 : goal.returns-in-10
returns-in-10 c = search laws

pub returns-in_default : goal.returns-in_default
returns-in_default c = search laws
