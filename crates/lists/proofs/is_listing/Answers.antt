use Rattle.lists.proofs.Laws.{laws}
use Rattle.lists.proofs.is_listing.Goals as goal

pub returns-then-list-eq0 : goal.returns-then-list-eq0
returns-then-list-eq0 c = search laws

pub returns : goal.returns
returns c = search laws
