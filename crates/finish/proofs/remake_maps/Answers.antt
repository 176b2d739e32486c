use Rattle.finish.proofs.Laws.{laws}
use Rattle.finish.proofs.remake_maps.Goals as goal

pub returns : goal.returns
returns c = search laws
