use native.Mathlib.Omega.{arith}
use Rattle.le.specs.Le.{le}
use Rattle.le.proofs.get_u8.Goals as goal

pub returns : goal.returns
unfolding le
returns c = omega arith
