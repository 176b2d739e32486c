use Rattle.checkpoint.proofs.Calls.{laws}
use Rattle.checkpoint.proofs.fields.put_order.Goals as goal

pub returns : goal.returns
returns c = search laws
