use mathlib.Core.Path.{◌≡◌, sym, ap, ◌∙◌}
use native.Mathlib.Omega.{arith}
use Rattle.words.specs.Words.{int}
use Rattle.totals.specs.Totals.{orders_in, wallets_fit}
use Rattle.totals.proofs.Laws.{none_left, slot_fine, slot_fails}
use Rattle.totals.proofs.all_fit.Goals as goal

pub loop-i-init : goal.loop-i-init
loop-i-init c =
    let s = c.args in none_left (int s.fee) s.accounts (orders_in s.from s.list.now)

pub returns-then-not-slot_fits : goal.returns-then-not-slot_fits
returns-then-not-slot_fits c =
    let i = c.loop-i.invariant in
    let s = c.args in
    slot_fails (int s.fee) s.accounts (orders_in s.from s.list.now) c.loop-i.i c.loop-i-test.true (omega arith) i _ c.slot_fits.ensures c.if-not-slot_fits.true

pub loop-i-preserved : goal.loop-i-preserved
loop-i-preserved c =
    let i = c.loop-i.invariant in let s = c.args in slot_fine (int s.fee) s.accounts (orders_in s.from s.list.now) c.loop-i.i c.loop-i-test.true (omega arith) i _ c.slot_fits.ensures c.if-not-slot_fits.false

pub returns : goal.returns
returns c =
    let z : c.loop-i.i ≡ 0 = omega (arith, c.loop-i-test.false) in
    let s = c.args in
    sym c.loop-i.invariant ∙ ap (λ k. wallets_fit (int s.fee) s.accounts k (orders_in s.from s.list.now)) z
