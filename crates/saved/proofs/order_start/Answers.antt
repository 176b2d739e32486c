use native.Mathlib.Omega.{arith}
use Rattle.saved.proofs.Decoded.{wallets_few, orders_few, orders_count}
use Rattle.saved.proofs.Laws.{laws}
use Rattle.saved.proofs.order_start.Goals as goal

pub overflow_mul-result : goal.overflow_mul-result
overflow_mul-result c = omega (arith, orders_few c.args.xs.now c.requires.0, orders_count c.args.xs.now c.requires.0)

pub overflow_add-result : goal.overflow_add-result
overflow_add-result c = omega (arith, wallets_few c.args.xs.now c.requires.0, orders_few c.args.xs.now c.requires.0, orders_count c.args.xs.now c.requires.0)

pub returns : goal.returns
returns c = search laws
