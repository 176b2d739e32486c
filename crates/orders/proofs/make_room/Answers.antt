use Rattle.orders.proofs.Laws.{laws}
use Rattle.orders.proofs.make_room.Goals as goal

pub returns-then-get-lt-ROOM : goal.returns-then-get-lt-ROOM
returns-then-get-lt-ROOM c = search laws

pub returns : goal.returns
returns c = search laws
