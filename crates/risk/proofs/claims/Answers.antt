use Rattle.risk.proofs.Meter.{claimed}
use Rattle.risk.proofs.claims.Goals as goal

pub returns : goal.returns
returns c = claimed
