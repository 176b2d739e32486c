use Rattle.balances.proofs.Laws.{laws}
use Rattle.balances.proofs.wallet.Goals as goal

pub returns-then-a-lt-OWNER_SLOTS : goal.returns-then-a-lt-OWNER_SLOTS
returns-then-a-lt-OWNER_SLOTS c = search laws

pub returns : goal.returns
returns c = search laws
