use mathlib.Core.Path.{◌≡◌, ◌∙◌}
use native.Mathlib.Omega.{arith}
use Rattle.store.specs.Layout.{cell}
use Rattle.login.proofs.Told.{count_first, count_next, count_all, small_row}
use Rattle.login.proofs.reports.count.Goals as goal

pub loop-j-init : goal.loop-j-init
loop-j-init c = (count_first (cell c.args.m.now) c.args.a c.word_at-delivered.result, omega arith)

pub rows-n-requires : goal.rows-n-requires
rows-n-requires c =
    (c.requires.holds, small_row c.requires c.loop-j.j _ c.word_at-size.ensures c.loop-j-test.true)

pub loop-j-preserved : goal.loop-j-preserved
loop-j-preserved c =
    (count_next (cell c.args.m.now) c.args.a c.word_at-delivered.result c.loop-j.j c.loop-j.n c.rows-n.result c.loop-j.invariant.0 c.rows-n.ensures.0, omega (arith, c.rows-n.ensures.1))

pub returns : goal.returns
returns c =
    let e = c.word_at-size.ensures in
    let j : c.loop-j.j ≡ c.word_at-size.result = omega arith in
    (count_all c.args.m.now c.args.a c.word_at-delivered.result c.loop-j.j c.loop-j.n c.word_at-delivered.ensures (j ∙ e) c.loop-j.invariant.0, omega (arith, c.requires.sound.tables.ordered.bounds.orders_fit))
