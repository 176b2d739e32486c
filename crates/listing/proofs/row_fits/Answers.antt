use Rattle.listing.proofs.Laws.{laws}
use Rattle.listing.proofs.row_fits.Goals as goal

pub returns-then-e-ne0 : goal.returns-then-e-ne0
returns-then-e-ne0 c = search laws

pub returns : goal.returns
returns c = search laws
