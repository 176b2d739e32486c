use Rattle.live.proofs.Laws.{laws}
use borrow.Author.Rules.{rules}
use Rattle.live.proofs.hold_of.Goals as goal

pub returns : goal.returns
returns c = search (laws, rules)
