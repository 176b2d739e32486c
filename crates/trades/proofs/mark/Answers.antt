use Rattle.trades.proofs.Applying.{applying}
use Rattle.trades.proofs.mark.Goals as goal

pub returns : goal.returns
returns c = search applying
