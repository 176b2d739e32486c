use Rattle.edge.proofs.Laws.{laws}
use Rattle.edge.proofs.rowanchess_checkpoint.Goals as goal

pub checkpoint-requires : goal.checkpoint-requires
checkpoint-requires c = search laws

pub returns-then-m-eq-SIZE : goal.returns-then-m-eq-SIZE
returns-then-m-eq-SIZE c = rw c.from.ensures (search laws)

pub returns : goal.returns
returns c = rw c.from-2.ensures (search laws)
