use Rattle.bitmap.proofs.Laws.{laws}
use Rattle.bitmap.proofs.put.Goals as goal

pub returns : goal.returns
returns c = search laws
