use Rattle.le.proofs.Checked.{width_one}
use borrow.Author.Rules.{rules}
use borrow.Author.Tests.{lt-ltb}
use mathlib.Core.Path.{sym}
use native.Mathlib.Omega.{arith}
use Rattle.le.proofs.is_small.Goals as goal

pub returns-in-8 : goal.returns-in-8
returns-in-8 c = rw c.in-8.is (sym (lt-ltb c.args.v 18446744073709551616 (search rules)))

pub returns-in_default : goal.returns-in_default
returns-in_default c = rw (width_one {w = c.args.width} (λ e. omega arith) (λ e. omega arith) (λ e. omega arith) c.requires)
