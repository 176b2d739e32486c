use mathlib.Core.Path.{refl}
use Prim.Native.Nat.{◌*◌, ◌-◌, ◌≤◌}
use native.Mathlib.Nat.{mul-le-mul}
use native.Mathlib.Omega.{arith}
use Rattle.words.specs.Words.{base}
use Rattle.words.proofs.half_mul.Goals as goal

bound : (c : goal.Start) → c.args.x * c.args.y ≤ (base - 1) * (base - 1)
bound c = mul-le-mul {n₂ = base - 1} {m₂ = base - 1} (omega arith) (omega arith)

pub overflow_mul-result : goal.overflow_mul-result
overflow_mul-result c = omega (arith, bound c)

pub returns : goal.returns
returns c = (refl, bound c)
