use Rattle.levels.proofs.Laws.{laws}
use Rattle.levels.proofs.is_at.Goals as goal

pub returns-then-used-i : goal.returns-then-used-i
returns-then-used-i c = search laws

pub returns-then-r-key : goal.returns-then-r-key
returns-then-r-key c = search laws

pub returns : goal.returns
returns c = search laws
