use Rattle.edge.proofs.Laws.{laws}
use Rattle.edge.proofs.rowanchess_finish.Goals as goal

pub finish-requires : goal.finish-requires
finish-requires c = search laws

pub returns-then-is_whole : goal.returns-then-is_whole
returns-then-is_whole c = rw c.code_of.ensures (search laws)

pub returns : goal.returns
returns c = search laws
