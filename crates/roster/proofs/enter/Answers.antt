use Rattle.roster.proofs.Laws.{laws}
use Rattle.roster.proofs.enter.Goals as goal

pub returns-then-limit-i : goal.returns-then-limit-i
returns-then-limit-i c = search laws

pub returns-then-i-ge-OWNER_SLOTS : goal.returns-then-i-ge-OWNER_SLOTS
returns-then-i-ge-OWNER_SLOTS c = search laws

pub returns : goal.returns
returns c = search laws
