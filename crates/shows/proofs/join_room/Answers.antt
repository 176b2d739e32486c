use Rattle.shows.proofs.Stored.{stored}
use Rattle.shows.proofs.join_room.Goals as goal

pub returns-then-word_at-ge-MOST_ORDERS : goal.returns-then-word_at-ge-MOST_ORDERS
returns-then-word_at-ge-MOST_ORDERS c = search stored

pub returns-then-side_room : goal.returns-then-side_room
returns-then-side_room c = search stored

pub returns : goal.returns
returns c = search stored
