use Rattle.finish.proofs.Laws.{laws}
use Rattle.finish.proofs.apply.Goals as goal

pub rest_all-requires : goal.rest_all-requires
rest_all-requires c = search laws

pub returns : goal.returns
returns c = search laws
