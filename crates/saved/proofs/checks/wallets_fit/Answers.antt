use Rattle.saved.proofs.Laws.{laws}
use Rattle.saved.proofs.checks.wallets_fit.Goals as goal

pub wallet_count-n-requires : goal.wallet_count-n-requires
wallet_count-n-requires c = search laws

pub returns-then-n-gt-OWNER_SLOTS : goal.returns-then-n-gt-OWNER_SLOTS
returns-then-n-gt-OWNER_SLOTS c = search laws

pub wallets_rise-requires : goal.wallets_rise-requires
wallets_rise-requires c = search laws

pub returns : goal.returns
returns c = search laws
