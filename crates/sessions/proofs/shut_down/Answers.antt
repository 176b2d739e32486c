use Rattle.sessions.proofs.Down.{downs}
use Rattle.sessions.proofs.shut_down.Goals as goal

pub returns-then-room-n : goal.returns-then-room-n
returns-then-room-n c = search downs

pub returns : goal.returns
returns c = search downs
