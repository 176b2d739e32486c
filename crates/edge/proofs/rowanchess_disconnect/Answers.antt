use Rattle.edge.proofs.Laws.{laws}
use Rattle.edge.proofs.rowanchess_disconnect.Goals as goal

pub disconnect-requires : goal.disconnect-requires
disconnect-requires c = search laws

pub returns-then-m-eq-SIZE : goal.returns-then-m-eq-SIZE
returns-then-m-eq-SIZE c = rw c.code_of.ensures (search laws)

pub returns : goal.returns
returns c = search laws
