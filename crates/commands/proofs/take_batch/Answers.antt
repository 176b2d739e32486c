use Rattle.commands.proofs.Batches.{batches}
use Rattle.commands.proofs.take_batch.Goals as goal

pub returns-then-room-n : goal.returns-then-room-n
returns-then-room-n c = search batches

pub returns : goal.returns
returns c = search batches
