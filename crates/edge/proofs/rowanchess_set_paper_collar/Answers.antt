use Rattle.edge.proofs.Laws.{laws}
use Rattle.edge.proofs.rowanchess_set_paper_collar.Goals as goal

pub set_paper_collar-requires : goal.set_paper_collar-requires
set_paper_collar-requires c = search laws

pub returns-then-is_whole : goal.returns-then-is_whole
returns-then-is_whole c = search laws

pub returns : goal.returns
returns c = search laws
