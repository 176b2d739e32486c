use Rattle.ticks.proofs.Dues.{laws}
use Rattle.ticks.proofs.due_of.Goals as goal

pub returns-then-is_present : goal.returns-then-is_present
returns-then-is_present c = search laws

pub returns : goal.returns
returns c = search laws
