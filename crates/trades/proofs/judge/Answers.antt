use Rattle.trades.proofs.Judging.{judging}
use Rattle.trades.proofs.judge.Goals as goal

pub few_notices-few-requires : goal.few_notices-few-requires
few_notices-few-requires c = search judging
