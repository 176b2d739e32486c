use Rattle.balances.proofs.Laws.{laws}
use Rattle.balances.proofs.balance_of.Goals as goal

pub returns : goal.returns
returns c = search laws
