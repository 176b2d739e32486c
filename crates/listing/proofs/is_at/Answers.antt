use Rattle.listing.proofs.Laws.{laws}
use Rattle.listing.proofs.is_at.Goals as goal

pub returns-then-e-ne0 : goal.returns-then-e-ne0
returns-then-e-ne0 c = search laws

pub returns-then-same_price : goal.returns-then-same_price
returns-then-same_price c = search laws

pub returns : goal.returns
returns c = search laws
