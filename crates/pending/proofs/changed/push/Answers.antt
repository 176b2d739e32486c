use Rattle.pending.proofs.Chain.{slot_fits, push_is}
use borrow.Author.Rules.{rules}
use Rattle.pending.proofs.changed.push.Goals as goal

pub set-requires : goal.set-requires
set-requires c = search (slot_fits, rules)

pub returns : goal.returns
returns c = search (push_is, rules)
