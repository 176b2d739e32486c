use Rattle.edge.proofs.Laws.{laws}
use Rattle.edge.proofs.rowanchess_shut_down.Goals as goal

pub shut_down-requires : goal.shut_down-requires
shut_down-requires c = search laws

pub returns-then-m-eq-SIZE : goal.returns-then-m-eq-SIZE
returns-then-m-eq-SIZE c = rw c.from.ensures (search laws)

pub returns : goal.returns
returns c = rw c.from-2.ensures (search laws)
