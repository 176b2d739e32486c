use mathlib.Core.Path.{◌≡◌, sym}
use Prim.Native.Nat.{◌-◌, ◌+◌}
use native.Mathlib.Omega.{arith}
use Rattle.store.specs.Layout.{cell}
use Rattle.store.specs.View.{ledger}
use Rattle.finish.proofs.Agreed.{none_agree, more_agree, one_differs}
use Rattle.finish.proofs.rows_agree.Goals as goal

pub loop-j-init : goal.loop-j-init
loop-j-init c =
    let e = c.rows-j.ensures in rw e (none_agree c.args.list.now (ledger (cell c.args.m.now)).orders)

pub row_agrees-requires : goal.row_agrees-requires
row_agrees-requires c = (c.requires, omega arith)

pub returns-then-not-row_agrees : goal.returns-then-not-row_agrees
returns-then-not-row_agrees c =
    one_differs _ _ (c.loop-j.j - 1) (omega arith) _ c.row_agrees.ensures c.if-not-row_agrees.true

pub loop-j-preserved : goal.loop-j-preserved
loop-j-preserved c =
    let e : c.loop-j.j - 1 + 1 ≡ c.loop-j.j = omega arith in more_agree _ _ (c.loop-j.j - 1) (omega arith) _ c.row_agrees.ensures c.if-not-row_agrees.false (rw e c.loop-j.invariant)

pub returns : goal.returns
returns c =
    let e : c.loop-j.j ≡ 0 = omega arith in
    sym (rw e at c.loop-j.invariant)
