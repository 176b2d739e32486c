use mathlib.Core.Path.{refl}
use native.Mathlib.Omega.{arith}
use Rattle.levels.proofs.listed.nth.Goals as goal

pub returns-in-Buy : goal.returns-in-Buy
returns-in-Buy c = rw c.in-Buy.is (refl, omega arith)
