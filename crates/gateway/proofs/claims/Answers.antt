use Rattle.gateway.proofs.Claimed.{claimed}
use Rattle.gateway.proofs.claims.Goals as goal

pub returns : goal.returns
returns c = claimed
