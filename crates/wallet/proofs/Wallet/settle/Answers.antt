use Rattle.wallet.proofs.Laws.{laws}
use Rattle.wallet.proofs.Wallet.settle.Goals as goal

pub charge_within-requires : goal.charge_within-requires
charge_within-requires c = search laws

pub returns : goal.returns
returns c = search laws
