use Rattle.stored.proofs.Laws.{laws}
use Rattle.stored.proofs.word.Goals as goal

pub returns-then-i-lt65536 : goal.returns-then-i-lt65536
returns-then-i-lt65536 c = search laws

pub returns : goal.returns
returns c = search laws
