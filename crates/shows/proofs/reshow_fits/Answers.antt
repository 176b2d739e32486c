use Rattle.shows.proofs.Stored.{stored}
use Rattle.shows.proofs.reshow_fits.Goals as goal

pub overflow_sub-result : goal.overflow_sub-result
overflow_sub-result c = search stored

pub returns-in-Some : goal.returns-in-Some
returns-in-Some c = search stored
