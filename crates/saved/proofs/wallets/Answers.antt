use Rattle.saved.proofs.Laws.{laws}
use Rattle.saved.proofs.wallets.Goals as goal

pub wallet_count-requires : goal.wallet_count-requires
wallet_count-requires c = search laws

pub returns : goal.returns
returns c = search laws
