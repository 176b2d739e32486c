use Rattle.trades.proofs.Judging.{judging}
use Rattle.trades.proofs.few_notices.Goals as goal

pub returns : goal.returns
returns c = search judging
