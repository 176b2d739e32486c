use Rattle.redelivery.proofs.Events.{kinds}
use Rattle.redelivery.proofs.rejected.Goals as goal

pub returns-then-id-n : goal.returns-then-id-n
returns-then-id-n c = search kinds

pub returns : goal.returns
returns c = search kinds
