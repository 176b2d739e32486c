use borrow.Author.Rules.{rules}
use Rattle.store.specs.Layout.{start}
use Rattle.store.proofs.start_of.Goals as goal

pub returns : goal.returns
unfolding start
returns c = search rules
