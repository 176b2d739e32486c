use Rattle.wallet.proofs.Laws.{laws}
use Rattle.wallet.proofs.charge_exactly.Goals as goal

pub returns-in-Some : goal.returns-in-Some
returns-in-Some c = search laws

pub returns-then-qty-eq0 : goal.returns-then-qty-eq0
returns-then-qty-eq0 c = search laws

pub returns-else-qty-eq0 : goal.returns-else-qty-eq0
returns-else-qty-eq0 c = search laws
