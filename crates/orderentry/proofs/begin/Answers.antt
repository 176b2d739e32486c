use Rattle.orderentry.proofs.Messages.{messages}
use Rattle.orderentry.proofs.begin.Goals as goal

pub returns : goal.returns
returns c = search messages
