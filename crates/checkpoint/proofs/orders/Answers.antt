use Rattle.checkpoint.proofs.Calls.{laws}
use Rattle.checkpoint.proofs.orders.Goals as goal

pub returns : goal.returns
returns c = search laws
