use Rattle.orders.proofs.Laws.{way_up, way_down}
use native.Mathlib.Omega.{arith}
use Rattle.orders.proofs.make_way.Goals as goal

pub returns-then-d-p : goal.returns-then-d-p
returns-then-d-p c = search (way_down, arith)

pub returns : goal.returns
returns c = search (way_up, arith)
