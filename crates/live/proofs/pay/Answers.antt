use Rattle.live.proofs.Laws.{laws}
use borrow.Author.Rules.{rules}
use Rattle.live.proofs.pay.Goals as goal

pub returns : goal.returns
returns c = search (laws, rules)
