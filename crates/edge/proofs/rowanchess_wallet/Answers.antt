use Rattle.edge.proofs.Laws.{laws}
use Rattle.edge.proofs.rowanchess_wallet.Goals as goal

pub wallet-b-requires : goal.wallet-b-requires
wallet-b-requires c = search laws

pub returns-then-m-eq-SIZE : goal.returns-then-m-eq-SIZE
returns-then-m-eq-SIZE c = search laws

pub returns : goal.returns
returns c = search laws
