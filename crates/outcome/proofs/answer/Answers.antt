use Rattle.outcome.proofs.Laws.{laws}
use Rattle.outcome.proofs.answer.Goals as goal

pub returns-then-room-lt1 : goal.returns-then-room-lt1
returns-then-room-lt1 c = search laws

pub returns : goal.returns
returns c = search laws
