use Rattle.script.proofs.Laws.{laws}
use Rattle.script.proofs.maybe_qty.Goals as goal

pub returns-then-word-eq0 : goal.returns-then-word-eq0
returns-then-word-eq0 c = search laws

pub returns : goal.returns
returns c = search laws
