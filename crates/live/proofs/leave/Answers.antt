use Rattle.live.proofs.Laws.{laws}
use borrow.Author.Rules.{rules}
use Rattle.live.proofs.leave.Goals as goal

pub returns-then-leaves-eq0 : goal.returns-then-leaves-eq0
returns-then-leaves-eq0 c = search (laws, rules)

pub returns : goal.returns
returns c = search (laws, rules)
