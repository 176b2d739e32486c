use Rattle.orderentry.proofs.Messages.{messages}
use Rattle.orderentry.proofs.refuse.Goals as goal

pub returns-then-room-lt1 : goal.returns-then-room-lt1
returns-then-room-lt1 c = search messages

pub returns : goal.returns
returns c = search messages
