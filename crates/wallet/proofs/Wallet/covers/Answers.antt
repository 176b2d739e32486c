use Rattle.wallet.proofs.Laws.{laws}
use Rattle.wallet.proofs.Wallet.covers.Goals as goal

pub returns : goal.returns
returns c = search laws
