use Rattle.feed.proofs.Calls.{calls}
use Rattle.feed.proofs.publish.Goals as goal

pub returns-then-room-n : goal.returns-then-room-n
returns-then-room-n c = search calls

pub returns : goal.returns
returns c = search calls
