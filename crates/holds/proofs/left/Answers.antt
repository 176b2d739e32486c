use Rattle.holds.proofs.Weighing.{weighing}
use Rattle.holds.proofs.left.Goals as goal

pub returns-in-Some : goal.returns-in-Some
returns-in-Some c = search weighing
