use native.Mathlib.Omega.{arith}
use Rattle.bitmap.proofs.Digits.{few_after, first_zero_is}
use Rattle.bitmap.proofs.first_zero.Goals as goal

pub overflow_cast-result : goal.overflow_cast-result
overflow_cast-result c = record { fits = omega (arith, few_after c.args.w c.args.k c.ranges.w.fits c.requires) }

pub overflow_add-result : goal.overflow_add-result
overflow_add-result c = record { fits = omega (arith, few_after c.args.w c.args.k c.ranges.w.fits c.requires) }

pub returns : goal.returns
returns c = first_zero_is c.args.w c.args.k c.ranges.w.fits c.requires
