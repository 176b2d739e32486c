use mathlib.Core.Path.{◌≡◌, ap, ◌∙◌}
use native.Mathlib.Omega.{arith}
use lib.ListN.{length}
use Rattle.store.specs.Layout.{cell}
use Rattle.store.specs.View.{gateway}
use Rattle.outcome.specs.Parts.{steps}
use Rattle.outcome.proofs.Steps.{steps_first, steps_count}
use Rattle.feed.specs.Feed.{notice_step}
use Rattle.feed.proofs.Notices.{notices_many, notices_each}
use Rattle.feed.proofs.count_balances.Goals as goal

pub loop-j-init : goal.loop-j-init
loop-j-init c = (steps_first notice_step _, omega arith)

pub balance_rows-n-requires : goal.balance_rows-n-requires
balance_rows-n-requires c =
    (c.requires, omega (arith, notices_many c.args.m.now, c.word_at-rows.ensures, c.loop-j-test.true))

pub overflow_add-n : goal.overflow_add-n
overflow_add-n c =
    omega (arith, c.loop-j.invariant.1, c.loop-j.auto.j-end, c.balance_rows-n.ensures.1, c.word_at-rows.ensures, c.requires.sound.tables.ordered.bounds.notices_fit)

pub loop-j-preserved : goal.loop-j-preserved
loop-j-preserved c =
    let r = c.balance_rows-n.ensures in
    (steps_count notice_step _ c.loop-j.j c.loop-j.n _ c.loop-j.invariant.0 r.0, omega (arith, c.loop-j.invariant.1, r.1))

pub returns : goal.returns
returns c =
    let i = c.loop-j.invariant in
    let e : c.loop-j.j ≡ c.word_at-rows.result = omega (arith, c.loop-j.auto.j-end, c.loop-j-test.false) in (
      i.0 ∙ ap (λ k. length (steps notice_step (gateway (cell c.args.m.now)) k)) e ∙ ap length (notices_each c.args.m.now _ c.word_at-rows.ensures),
      omega (arith, c.loop-j.auto.j-end, i.1, c.word_at-rows.ensures, c.requires.sound.tables.ordered.bounds.notices_fit),
    )
