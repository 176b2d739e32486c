use Rattle.levels.proofs.Laws.{laws}
use Rattle.levels.proofs.write_row.Goals as goal

pub returns : goal.returns
returns c = search laws
