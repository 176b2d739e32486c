use Rattle.listing.proofs.Laws.{laws}
use Rattle.listing.proofs.levels_few.Goals as goal

pub returns-then-count_levels-le-MOST_LEVELS : goal.returns-then-count_levels-le-MOST_LEVELS
returns-then-count_levels-le-MOST_LEVELS c = search laws

pub returns : goal.returns
returns c = search laws
