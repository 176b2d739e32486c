use Rattle.le.specs.Checked.{inside}
use borrow.Author.Tests.{le-leb, lt-leb}
use native.Mathlib.Omega.{arith}
use Prim.Native.Nat.{◌+◌, ◌≤◌, ◌<◌}
use mathlib.Core.Bool.{and-true, and-false}
use Rattle.le.proofs.is_inside.Goals as goal

pub returns-then-len-o : goal.returns-then-len-o
unfolding inside
returns-then-len-o c =
    let a = c.args in
    let h : a.len < a.o + a.width = omega arith in
    rw (lt-leb _ _ h, and-false)

pub returns-then-len-o-2 : goal.returns-then-len-o-2
unfolding inside
returns-then-len-o-2 c =
    let a = c.args in
    let h : a.len < a.o + a.width = omega arith in
    rw (lt-leb _ _ h, and-false)

pub returns : goal.returns
unfolding inside
returns c =
    let a = c.args in
    let h : a.o + a.width ≤ a.len = omega arith in
    rw (le-leb _ _ h, and-true) c.is_width.ensures
