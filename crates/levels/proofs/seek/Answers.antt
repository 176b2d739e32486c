use Rattle.levels.proofs.Laws.{laws}
use Rattle.levels.proofs.seek.Goals as goal

pub bound_by-requires : goal.bound_by-requires
bound_by-requires c = search laws

pub returns : goal.returns
returns c = search laws
