use native.Mathlib.Omega.{arith}
use Rattle.bitmap.proofs.Digits.{few_before, last_zero_is}
use Rattle.bitmap.proofs.last_zero.Goals as goal

pub overflow_cast-result : goal.overflow_cast-result
overflow_cast-result c = record { fits = omega (arith, few_before c.args.w c.args.k c.requires.1) }

pub overflow_sub-result-2 : goal.overflow_sub-result-2
overflow_sub-result-2 c = few_before c.args.w c.args.k c.requires.1

pub returns : goal.returns
returns c = last_zero_is c.args.w c.args.k c.requires.1
