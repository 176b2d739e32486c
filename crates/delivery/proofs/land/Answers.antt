use Rattle.delivery.proofs.Runs.{runs}
use Rattle.delivery.proofs.land.Goals as goal

pub land-requires : goal.land-requires
land-requires c = search runs

pub returns : goal.returns
returns c = search runs
