use Rattle.restart.proofs.Claimed.{claimed}
use Rattle.restart.proofs.claims.Goals as goal

pub returns : goal.returns
returns c = claimed
