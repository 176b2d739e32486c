use Rattle.levels.proofs.Laws.{laws}
use Rattle.levels.proofs.recount.Goals as goal

pub put-requires : goal.put-requires
put-requires c = search laws

pub returns : goal.returns
returns c = search laws
