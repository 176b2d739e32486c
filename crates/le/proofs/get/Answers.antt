use Rattle.le.proofs.Checked.{width_one}
use mathlib.Core.Path.{◌≡◌}
use native.Mathlib.Omega.{arith}
use Rattle.le.proofs.get.Goals as goal

pub get_u8-requires : goal.get_u8-requires
get_u8-requires c = omega (arith, width_one {w = c.args.width} (λ e. omega arith) (λ e. omega arith) (λ e. omega arith) c.requires.width)

pub returns-in_default : goal.returns-in_default
returns-in_default c = rw (width_one {w = c.args.width} (λ e. omega arith) (λ e. omega arith) (λ e. omega arith) c.requires.width) c.get_u8.ensures
