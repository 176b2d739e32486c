use mathlib.Core.Path.{ap}
use native.Mathlib.Omega.{arith}
use Rattle.levels.specs.declared.Row.{Row}
use Rattle.levels.proofs.Laws.{laws}
use Rattle.levels.proofs.join.Goals as goal

pub overflow_add-r : goal.overflow_add-r
overflow_add-r c = omega (arith, ap (λ (x : Row). x.qty) c.read_row-r.ensures, c.requires.3.0)

pub overflow_add-r-2 : goal.overflow_add-r-2
overflow_add-r-2 c = omega (arith, ap (λ (x : Row). x.orders) c.read_row-r.ensures, c.requires.3.1)

pub returns : goal.returns
returns c = search laws
