use Rattle.replaying.proofs.Laws.{laws}
use Rattle.replaying.proofs.start.Goals as goal

pub returns-then-word-eq0 : goal.returns-then-word-eq0
returns-then-word-eq0 c = search laws

pub returns : goal.returns
returns c = search laws
