use Rattle.orders.proofs.Laws.{map_row_is}
use native.Mathlib.Omega.{arith}
use Rattle.orders.proofs.map_row.Goals as goal

pub returns : goal.returns
returns c = search (map_row_is, arith)
