use Rattle.ticks.proofs.Dues.{laws}
use Rattle.ticks.proofs.due_at.Goals as goal

pub returns : goal.returns
returns c = search laws
