use Rattle.orders.proofs.Laws.{kept_out, kept_in}
use native.Mathlib.Omega.{arith}
use Rattle.orders.proofs.kept_at.Goals as goal

pub returns-then-get-i : goal.returns-then-get-i
returns-then-get-i c = search (kept_out, arith)

pub returns : goal.returns
returns c = search (kept_in, arith)
