use Rattle.orders.proofs.Laws.{rows_stay, rows_grow}
use native.Mathlib.Omega.{arith}
use Rattle.orders.proofs.rows_with.Goals as goal

pub returns-then-d-n : goal.returns-then-d-n
returns-then-d-n c = search (rows_stay, arith)

pub returns-else-d-n : goal.returns-else-d-n
returns-else-d-n c = search (rows_grow, arith)
