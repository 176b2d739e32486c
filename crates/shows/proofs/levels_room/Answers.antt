use Rattle.shows.proofs.Changed.{changed}
use Rattle.shows.proofs.levels_room.Goals as goal

pub returns-then-same_level : goal.returns-then-same_level
returns-then-same_level c = search changed

pub returns : goal.returns
returns c = search changed
