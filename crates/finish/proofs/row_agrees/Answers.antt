use Rattle.finish.proofs.Laws.{laws}
use Rattle.finish.proofs.row_agrees.Goals as goal

pub returns-then-is_live : goal.returns-then-is_live
returns-then-is_live c = search laws

pub returns : goal.returns
returns c = search laws
