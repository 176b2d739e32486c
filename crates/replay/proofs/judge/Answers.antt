use Rattle.replay.proofs.Judging.{judging}
use Rattle.replay.proofs.judge.Goals as goal

pub returns : goal.returns
returns c = search judging
