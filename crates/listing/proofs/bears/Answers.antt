use Rattle.listing.proofs.Laws.{laws}
use Rattle.listing.proofs.bears.Goals as goal

pub returns-then-word-number : goal.returns-then-word-number
returns-then-word-number c = search laws

pub returns-else-word-number : goal.returns-else-word-number
returns-else-word-number c = search laws
