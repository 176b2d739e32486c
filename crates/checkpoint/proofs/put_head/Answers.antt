use Rattle.checkpoint.proofs.Calls.{laws}
use Rattle.checkpoint.proofs.put_head.Goals as goal

pub returns : goal.returns
returns c = search laws
