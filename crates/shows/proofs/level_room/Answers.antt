use Rattle.shows.proofs.Changed.{changed}
use Rattle.shows.proofs.level_room.Goals as goal

pub returns-then-word_at-lt-MOST_CHANGED : goal.returns-then-word_at-lt-MOST_CHANGED
returns-then-word_at-lt-MOST_CHANGED c = search changed

pub returns : goal.returns
returns c = search changed
