use Rattle.commands.proofs.Batches.{batches}
use Rattle.commands.proofs.clear.Goals as goal

pub returns : goal.returns
returns c = search batches
