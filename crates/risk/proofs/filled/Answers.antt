use Prim.Native.Nat.{◌*◌, ◌≤◌}
use native.Mathlib.Nat.{mul-le-mul_left}
use native.Mathlib.Omega.{arith}
use Rattle.risk.specs.Throttle.{burst, filled}
use Rattle.risk.proofs.filled.Goals as goal

gain : (c : goal.Else-tokens-burst) → c.args.rate * c.args.elapsed ≤ burst c.args.rate
gain c = mul-le-mul_left c.args.rate (omega arith)

pub returns-then-elapsed-ge-TOKEN : goal.returns-then-elapsed-ge-TOKEN
unfolding filled
returns-then-elapsed-ge-TOKEN c = omega (arith, mul-le-mul_left c.args.rate c.if-elapsed-ge-TOKEN.true)

pub returns-then-tokens-burst : goal.returns-then-tokens-burst
unfolding filled
returns-then-tokens-burst c = omega arith

pub overflow_mul-sum : goal.overflow_mul-sum
overflow_mul-sum c = omega (arith, gain c)

pub overflow_add-sum : goal.overflow_add-sum
overflow_add-sum c = omega (arith, gain c)

pub returns : goal.returns
unfolding filled
returns c = omega arith
