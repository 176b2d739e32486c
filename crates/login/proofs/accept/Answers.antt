use Rattle.login.proofs.Entered.{laws}
use Rattle.login.proofs.accept.Goals as goal

pub returns-then-room-n : goal.returns-then-room-n
returns-then-room-n c = search laws

pub returns : goal.returns
returns c = search laws
