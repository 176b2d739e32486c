use Rattle.edge.proofs.Laws.{laws}
use Rattle.edge.proofs.rowanchess_last_seq.Goals as goal

pub last_seq-requires : goal.last_seq-requires
last_seq-requires c = search laws

pub returns-then-m-eq-SIZE : goal.returns-then-m-eq-SIZE
returns-then-m-eq-SIZE c = search laws

pub returns : goal.returns
returns c = search laws
