use Rattle.holds.proofs.Weighing.{weighing}
use Rattle.holds.proofs.after.Goals as goal

pub returns-in-Retire : goal.returns-in-Retire
returns-in-Retire c = search weighing
