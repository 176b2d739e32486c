use Rattle.marketdata.proofs.Laws.{laws}
use Rattle.marketdata.proofs.modified.Goals as goal

pub show-requires : goal.show-requires
show-requires c = search laws

pub returns-then-stays : goal.returns-then-stays
returns-then-stays c = search laws

pub remove-requires : goal.remove-requires
remove-requires c = search laws

pub returns : goal.returns
returns c = search laws
