use Rattle.saved.proofs.Laws.{laws}
use Rattle.saved.proofs.checks.order_count.Goals as goal

pub wallet_count-requires : goal.wallet_count-requires
wallet_count-requires c = search laws

pub count_at-requires : goal.count_at-requires
count_at-requires c = search laws

pub returns : goal.returns
returns c = search laws
