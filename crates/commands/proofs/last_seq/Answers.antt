use Rattle.commands.proofs.Batches.{batches}
use Rattle.commands.proofs.last_seq.Goals as goal

pub returns : goal.returns
returns c = search batches
