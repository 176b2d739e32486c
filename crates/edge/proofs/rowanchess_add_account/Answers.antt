use Rattle.edge.proofs.Laws.{laws}
use Rattle.edge.proofs.rowanchess_add_account.Goals as goal

pub account-a-requires : goal.account-a-requires
account-a-requires c = search laws

pub add_account-requires : goal.add_account-requires
add_account-requires c = search laws

pub returns-then-is_whole : goal.returns-then-is_whole
returns-then-is_whole c = rw c.code_of.ensures (search laws)

pub returns : goal.returns
returns c = search laws
