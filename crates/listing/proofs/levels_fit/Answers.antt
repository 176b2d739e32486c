use mathlib.Core.Path.{◌≡◌, sym, ◌∙◌}
use Prim.Native.Nat.{◌-◌, ◌+◌}
use native.Mathlib.Omega.{arith}
use Rattle.listing.proofs.Laws.{none_fit, unfit}
use Rattle.listing.proofs.levels_fit.Goals as goal

pub loop-j-init : goal.loop-j-init
loop-j-init c =
    let e = c.rows-j.ensures in rw e (none_fit c.args.list.now)

pub row_fits-requires : goal.row_fits-requires
row_fits-requires c =
    let e : c.loop-j.j - 1 + 1 ≡ c.loop-j.j = omega arith in
    (omega arith, rw e c.loop-j.invariant)

pub returns-then-not-row_fits : goal.returns-then-not-row_fits
returns-then-not-row_fits c =
    unfit _ (c.loop-j.j - 1) (omega arith) _ c.row_fits.ensures c.if-not-row_fits.true

pub loop-j-preserved : goal.loop-j-preserved
loop-j-preserved c =
    sym c.row_fits.ensures ∙ c.if-not-row_fits.false

pub returns : goal.returns
returns c =
    let e : c.loop-j.j ≡ 0 = omega arith in
    sym (rw e at c.loop-j.invariant)
