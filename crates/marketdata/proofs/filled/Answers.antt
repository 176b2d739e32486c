use Rattle.marketdata.proofs.Laws.{laws}
use Rattle.marketdata.proofs.filled.Goals as goal

pub remove-requires : goal.remove-requires
remove-requires c = search laws

pub returns-then-leaves-eq0 : goal.returns-then-leaves-eq0
returns-then-leaves-eq0 c = search laws

pub show-requires : goal.show-requires
show-requires c = search laws

pub returns : goal.returns
returns c = search laws
