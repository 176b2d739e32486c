use mathlib.Core.Path.{◌≡◌, sym, ap}
use Prim.Native.Nat.{◌-◌, ◌+◌}
use native.Mathlib.Omega.{arith}
use borrow.Author.Tests.{not-true, not-false}
use Rattle.script.specs.Strict.{all_fit, is_account_at}
use Rattle.script.proofs.Rows.{fits_not, fits_too, none_left}
use Rattle.script.proofs.strict.all_accounts.Goals as goal

pub loop-j-init : goal.loop-j-init
loop-j-init c =
    let e = c.account_rows-j.ensures in ap (all_fit (is_account_at c.args.list.now)) (sym e)

pub returns-then-not-is_account_at : goal.returns-then-not-is_account_at
returns-then-not-is_account_at c =
    let e : c.loop-j.j ≡ c.loop-j.j - 1 + 1 = omega arith in
    fits_not _ (c.loop-j.j - 1) _ _ c.is_account_at.ensures (rw e at c.loop-j.invariant) c.if-not-is_account_at.true

pub loop-j-preserved : goal.loop-j-preserved
loop-j-preserved c =
    let e : c.loop-j.j ≡ c.loop-j.j - 1 + 1 = omega arith in fits_too _ (c.loop-j.j - 1) _ _ c.is_account_at.ensures (rw e at c.loop-j.invariant) c.if-not-is_account_at.false

pub returns : goal.returns
returns c =
    let e : c.loop-j.j ≡ 0 = omega arith in
    none_left _ _ (rw e at c.loop-j.invariant)
