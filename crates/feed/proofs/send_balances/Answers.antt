use mathlib.Core.Path.{refl}
use native.Mathlib.Omega.{arith}
use Rattle.outcome.proofs.Steps.{sent_first, sent_more, walk_room, walk_last}
use Rattle.feed.specs.Feed.{notice_step, balances}
use Rattle.feed.proofs.Stamps.{notice_keeps, exact_sends, rows_kept}
use Rattle.feed.proofs.Notices.{notices_many, notices_each}
use Rattle.feed.proofs.send_balances.Goals as goal

pub loop-j-init : goal.loop-j-init
loop-j-init c =
    sent_first notice_step notice_keeps c.args.m.now c.args.out.now 0 c.requires.0.state

pub send_notice-n-requires : goal.send_notice-n-requires
send_notice-n-requires c =
    let xs = c.args.m.now in
    let t = c.loop-j.invariant in
    let h = c.loop-j-test.true in
    let e = c.word_at-rows.ensures in (
      exact_sends _ c.requires.0 t.sends,
      rows_kept (λ r. r.notices) (λ zs r. refl) xs 0 _ t.sends _ (omega (arith, notices_many xs)),
      walk_room notice_step notice_keeps xs c.args.out.now 0 _ balances (notices_each xs _ e) t h _ (rw c.loop-j.auto.out (omega (arith, c.requires.1))),
    )

pub loop-j-preserved : goal.loop-j-preserved
loop-j-preserved c =
    sent_more notice_step notice_keeps c.args.m.now c.args.out.now 0 c.loop-j.invariant c.send_notice-n.ensures

pub returns : goal.returns
returns c =
    let xs = c.args.m.now in
    walk_last notice_step notice_keeps xs c.args.out.now 0 _ balances (notices_each xs _ c.word_at-rows.ensures) c.loop-j.invariant c.loop-j.auto.j-end c.loop-j-test.false
