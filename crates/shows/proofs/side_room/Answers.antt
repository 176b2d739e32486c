use Rattle.shows.proofs.Stored.{stored}
use Rattle.shows.proofs.side_room.Goals as goal

pub returns-then-size-lt-MOST_LEVELS : goal.returns-then-size-lt-MOST_LEVELS
returns-then-size-lt-MOST_LEVELS c = search stored

pub returns : goal.returns
returns c = search stored
