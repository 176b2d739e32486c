use Rattle.delivery.proofs.Runs.{runs}
use Rattle.delivery.proofs.is_owner.Goals as goal

pub returns : goal.returns
returns c = search runs
