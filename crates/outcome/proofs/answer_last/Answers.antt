use Rattle.outcome.proofs.Laws.{laws}
use Rattle.outcome.proofs.answer_last.Goals as goal

pub returns-then-room-lt2 : goal.returns-then-room-lt2
returns-then-room-lt2 c = search laws

pub returns : goal.returns
returns c = search laws
