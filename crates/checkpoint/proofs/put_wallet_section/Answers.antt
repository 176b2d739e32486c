use Rattle.checkpoint.proofs.Calls.{laws}
use Rattle.checkpoint.proofs.put_wallet_section.Goals as goal

pub put_wallets-requires : goal.put_wallets-requires
put_wallets-requires c = search laws

pub returns : goal.returns
returns c = search laws
