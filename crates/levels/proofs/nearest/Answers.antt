use Rattle.levels.proofs.Laws.{laws}
use Rattle.levels.proofs.nearest.Goals as goal

pub nearest-requires : goal.nearest-requires
nearest-requires c = search laws

pub returns : goal.returns
returns c = search laws
