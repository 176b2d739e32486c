use Rattle.edge.proofs.Laws.{laws}
use Rattle.edge.proofs.rowanchess_receive.Goals as goal

pub message-message-requires : goal.message-message-requires
message-message-requires c = search laws

pub receive-requires : goal.receive-requires
receive-requires c = search laws

pub returns-then-is_whole : goal.returns-then-is_whole
returns-then-is_whole c = rw c.from.ensures (search laws)

pub returns : goal.returns
returns c = rw c.from-2.ensures (search laws)
