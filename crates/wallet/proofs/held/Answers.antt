use Rattle.wallet.proofs.Laws.{laws}
use Rattle.wallet.proofs.held.Goals as goal

pub returns-then-priced : goal.returns-then-priced
returns-then-priced c = search laws

pub returns-else-priced : goal.returns-else-priced
returns-else-priced c = search laws
