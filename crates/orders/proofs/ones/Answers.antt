use Rattle.orders.proofs.Laws.{ones_none, ones_some, ones_all, shl_some}
use native.Mathlib.Omega.{arith}
use borrow.Author.Rules.{rules}
use Rattle.orders.proofs.ones.Goals as goal

pub returns-then-n-g : goal.returns-then-n-g
returns-then-n-g c = search (ones_none, arith)

pub overflow_sub-result : goal.overflow_sub-result
overflow_sub-result c = search (shl_some, rules)

pub returns-then-k-lt64 : goal.returns-then-k-lt64
returns-then-k-lt64 c = search (ones_some, arith)

pub returns : goal.returns
returns c = search (ones_all, arith)
