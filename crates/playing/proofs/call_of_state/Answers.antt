use Rattle.playing.proofs.Laws.{laws}
use Rattle.playing.proofs.call_of_state.Goals as goal

pub returns-in-2 : goal.returns-in-2
returns-in-2 c = search laws

pub returns-in-3 : goal.returns-in-3
returns-in-3 c = search laws

pub returns-in-4 : goal.returns-in-4
returns-in-4 c = search laws

pub returns-in-5 : goal.returns-in-5
returns-in-5 c = search laws

pub returns-in_default : goal.returns-in_default
returns-in_default c = search laws
