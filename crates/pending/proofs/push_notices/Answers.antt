use Rattle.pending.proofs.Laws.{laws}
use borrow.Author.Rules.{rules}
use Rattle.pending.proofs.push_notices.Goals as goal

pub returns : goal.returns
returns c = search (laws, rules)
