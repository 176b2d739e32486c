use Rattle.stored.proofs.Laws.{laws}
use Rattle.stored.proofs.begins.Goals as goal

pub returns-then-is_start : goal.returns-then-is_start
returns-then-is_start c = search laws

pub returns : goal.returns
returns c = search laws
