use Rattle.redelivery.proofs.Events.{kinds}
use Rattle.redelivery.proofs.mass_cancelled.Goals as goal

pub returns : goal.returns
returns c = search kinds
