use Rattle.saved.proofs.Laws.{laws}
use Rattle.saved.proofs.is_whole.Goals as goal

pub returns-then-not-is_sized : goal.returns-then-not-is_sized
returns-then-not-is_sized c = search laws

pub head_fits-requires : goal.head_fits-requires
head_fits-requires c = search laws

pub returns-then-not-head_fits : goal.returns-then-not-head_fits
returns-then-not-head_fits c = search laws

pub wallets_fit-requires : goal.wallets_fit-requires
wallets_fit-requires c = search laws

pub returns-then-not-wallets_fit : goal.returns-then-not-wallets_fit
returns-then-not-wallets_fit c = search laws

pub orders_fit-requires : goal.orders_fit-requires
orders_fit-requires c = search laws

pub returns : goal.returns
returns c = search laws
