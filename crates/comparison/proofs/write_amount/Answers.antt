use Rattle.comparison.proofs.Laws.{laws}
use Rattle.comparison.proofs.write_amount.Goals as goal

pub returns-in-Some : goal.returns-in-Some
returns-in-Some c = search laws

pub returns-in-None : goal.returns-in-None
returns-in-None c = search laws
