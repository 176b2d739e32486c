use Rattle.saved.proofs.Laws.{laws}
use Rattle.saved.proofs.checks.orders_fit.Goals as goal

pub returns-then-n-gt-MOST_ORDERS : goal.returns-then-n-gt-MOST_ORDERS
returns-then-n-gt-MOST_ORDERS c = search laws

pub wallet_count-requires : goal.wallet_count-requires
wallet_count-requires c = search laws

pub rows_fit-requires : goal.rows_fit-requires
rows_fit-requires c = search laws

pub returns : goal.returns
returns c = search laws
