use Rattle.refill.proofs.Laws.{laws}
use Rattle.refill.proofs.own.Goals as goal

pub returns-then-is_funded : goal.returns-then-is_funded
returns-then-is_funded c = search laws

pub returns-else-is_funded : goal.returns-else-is_funded
returns-else-is_funded c = search laws
