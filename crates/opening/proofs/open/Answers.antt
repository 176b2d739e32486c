use Rattle.opening.proofs.Laws.{laws}
use Rattle.opening.proofs.open.Goals as goal

pub enter_all-requires : goal.enter_all-requires
enter_all-requires c = search laws

pub returns : goal.returns
returns c = search laws
