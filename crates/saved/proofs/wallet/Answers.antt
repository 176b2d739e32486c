use native.Mathlib.Omega.{arith}
use Rattle.saved.proofs.Decoded.{wallets_few, wallets_count}
use Rattle.saved.proofs.Laws.{laws}
use Rattle.saved.proofs.wallet.Goals as goal

pub overflow_mul-j : goal.overflow_mul-j
overflow_mul-j c = omega (arith, wallets_few c.args.xs.now c.requires.0, wallets_count c.args.xs.now c.requires.0)

pub overflow_add-j : goal.overflow_add-j
overflow_add-j c = omega (arith, wallets_few c.args.xs.now c.requires.0, wallets_count c.args.xs.now c.requires.0)

pub wallet_row-requires : goal.wallet_row-requires
wallet_row-requires c = search laws

pub returns : goal.returns
returns c = search laws
