use Rattle.orderentry.proofs.Messages.{messages}
use Rattle.orderentry.proofs.set_bucket.Goals as goal

pub returns : goal.returns
returns c = search messages
