use Rattle.stored.proofs.Laws.{laws}
use Rattle.stored.proofs.grows.Goals as goal

pub returns-then-i-lt16 : goal.returns-then-i-lt16
returns-then-i-lt16 c = search laws

pub returns : goal.returns
returns c = search laws
