use Rattle.restore.proofs.Laws.{laws}
use Rattle.restore.proofs.judge_all.Goals as goal

pub returns-then-not_negative : goal.returns-then-not_negative
returns-then-not_negative c = search laws

pub returns : goal.returns
returns c = search laws
