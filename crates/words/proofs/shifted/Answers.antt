use Rattle.words.specs.Words.{modulus}
use Rattle.words.proofs.Wrap.{shift_is}
use Prim.Native.Nat.{◌+◌, ◌-◌, ◌%◌}
use mathlib.Core.Path.{refl}
use native.Mathlib.Omega.{arith}
use borrow.Author.Rules.{rules}
use Rattle.words.proofs.shifted.Goals as goal

pub returns : goal.returns
returns c =
    shift_is c.args.total c.args.old c.args.new ((c.args.total + (modulus - c.args.old)) % modulus) _ (search rules) (search rules) (search rules) (omega arith) refl
