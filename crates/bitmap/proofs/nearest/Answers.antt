use Rattle.bitmap.proofs.Laws.{laws}
use Rattle.bitmap.proofs.nearest.Goals as goal

pub returns-then-down-eq0 : goal.returns-then-down-eq0
returns-then-down-eq0 c = search laws

pub returns-then-up-j : goal.returns-then-up-j
returns-then-up-j c = search laws

pub returns-then-up-n : goal.returns-then-up-n
returns-then-up-n c = search laws

pub returns : goal.returns
returns c = search laws
