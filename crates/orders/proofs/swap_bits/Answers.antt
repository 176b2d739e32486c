use Rattle.orders.proofs.Laws.{swap_bits_is}
use native.Mathlib.Omega.{arith}
use Rattle.orders.proofs.swap_bits.Goals as goal

pub returns : goal.returns
returns c = search (swap_bits_is, arith)
