use mathlib.Core.Path.{◌≡◌, sym, ap, ◌∙◌}
use Prim.Native.Nat.{◌-◌, ◌+◌}
use native.Mathlib.Omega.{arith}
use Rattle.script.specs.Strict.{all_fit}
use Rattle.script.proofs.Rows.{fits_not, fits_too, none_left}
use Rattle.lists.specs.Lists.{entry_fits, entry_fits_at}
use Rattle.lists.proofs.entries_fit.Goals as goal

pub loop-j-init : goal.loop-j-init
loop-j-init c =
    let e = c.rows-j.ensures in ap (all_fit (entry_fits_at c.args.list.now)) (sym e)

pub returns-then-not-entry_fits : goal.returns-then-not-entry_fits
returns-then-not-entry_fits c =
    let e : c.loop-j.j ≡ c.loop-j.j - 1 + 1 = omega arith in
    fits_not _ (c.loop-j.j - 1) _ _ (c.entry_fits.ensures ∙ ap entry_fits c.entry_at-e.ensures) (rw e at c.loop-j.invariant) c.if-not-entry_fits.true

pub loop-j-preserved : goal.loop-j-preserved
loop-j-preserved c =
    let e : c.loop-j.j ≡ c.loop-j.j - 1 + 1 = omega arith in fits_too _ (c.loop-j.j - 1) _ _ (c.entry_fits.ensures ∙ ap entry_fits c.entry_at-e.ensures) (rw e at c.loop-j.invariant) c.if-not-entry_fits.false

pub returns : goal.returns
returns c =
    let e : c.loop-j.j ≡ 0 = omega arith in
    none_left _ _ (rw e at c.loop-j.invariant)
