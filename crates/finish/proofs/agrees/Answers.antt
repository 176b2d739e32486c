use Rattle.finish.proofs.Laws.{laws}
use Rattle.finish.proofs.agrees.Goals as goal

pub returns-then-rows-word_at : goal.returns-then-rows-word_at
returns-then-rows-word_at c = search laws

pub returns : goal.returns
returns c = search laws
