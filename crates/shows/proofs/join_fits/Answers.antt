use Rattle.shows.proofs.Stored.{stored}
use Rattle.shows.proofs.join_fits.Goals as goal

pub returns : goal.returns
returns c = search stored
