use Rattle.le.proofs.Checked.{width_one}
use native.Mathlib.Omega.{arith}
use Rattle.le.proofs.put.Goals as goal

pub overflow_cast-v : goal.overflow_cast-v
overflow_cast-v c = record { fits = rw c.in-4.is at c.requires.1 }

pub put_u8-requires : goal.put_u8-requires
put_u8-requires c = omega (arith, width_one {w = c.args.width} (λ e. omega arith) (λ e. omega arith) (λ e. omega arith) c.requires.0.width)

pub returns-in_default : goal.returns-in_default
returns-in_default c = rw (width_one {w = c.args.width} (λ e. omega arith) (λ e. omega arith) (λ e. omega arith) c.requires.0.width) c.put_u8.ensures
