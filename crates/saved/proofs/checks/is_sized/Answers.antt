use Rattle.saved.proofs.Laws.{laws}
use Rattle.saved.proofs.checks.is_sized.Goals as goal

pub returns-then-xs-lt21 : goal.returns-then-xs-lt21
returns-then-xs-lt21 c = search laws

pub returns-then-xs-at : goal.returns-then-xs-at
returns-then-xs-at c = search laws

pub returns : goal.returns
returns c = search laws
