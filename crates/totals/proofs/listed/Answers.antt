use Rattle.totals.proofs.Laws.{laws}
use Rattle.totals.proofs.listed.Goals as goal

pub returns : goal.returns
returns c = search laws
