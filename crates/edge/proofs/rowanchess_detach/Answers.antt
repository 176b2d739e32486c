use Rattle.edge.proofs.Laws.{laws}
use Rattle.edge.proofs.rowanchess_detach.Goals as goal

pub detach-a-requires : goal.detach-a-requires
detach-a-requires c = search laws

pub returns-then-m-eq-SIZE : goal.returns-then-m-eq-SIZE
returns-then-m-eq-SIZE c = search laws

pub returns : goal.returns
returns c = search laws
