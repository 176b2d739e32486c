use Rattle.orders.proofs.Laws.{place_down, place_still}
use native.Mathlib.Omega.{arith}
use Rattle.orders.proofs.new_place.Goals as goal

pub returns-then-d-i : goal.returns-then-d-i
returns-then-d-i c = search (place_down, arith)

pub returns-else-d-i : goal.returns-else-d-i
returns-else-d-i c = search (place_still, arith)
