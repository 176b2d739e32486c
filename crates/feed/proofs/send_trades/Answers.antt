use mathlib.Core.Path.{refl}
use native.Mathlib.Omega.{arith}
use lib.ListN.{length}
use Rattle.mailbox.specs.Mailbox.{places}
use Rattle.outcome.proofs.Steps.{sent_first, sent_more, walk_room, walk_last}
use Rattle.feed.specs.Feed.{trade_step, trades_to}
use Rattle.feed.proofs.Stamps.{trade_keeps, rows_kept}
use Rattle.feed.proofs.Changes.{trades_many, trades_each}
use Rattle.feed.proofs.send_trades.Goals as goal

pub loop-j-init : goal.loop-j-init
loop-j-init c =
    sent_first (trade_step c.args.s) (λ g ms k. trade_keeps g ms c.args.s k) c.args.m.now c.args.out.now c.args.i c.requires.0

pub send_trade-n-requires : goal.send_trade-n-requires
send_trade-n-requires c =
    let xs = c.args.m.now in
    let to = c.args.s in
    let t = c.loop-j.invariant in
    let h = c.loop-j-test.true in
    let e = c.word_at-rows.ensures in
    let room = walk_room (trade_step to) (λ g ms k. trade_keeps g ms to k) xs c.args.out.now c.args.i _ (trades_to to) (trades_each xs to _ e) t h (places (length c.loop-j.out)) (rw c.loop-j.auto.out c.requires.2) in
    (t.sends.becomes.state, c.requires.1, rows_kept (λ r. r.trades) (λ zs r. refl) xs c.args.i _ t.sends _ (omega (arith, trades_many xs)), omega (arith, room))

pub loop-j-preserved : goal.loop-j-preserved
loop-j-preserved c =
    let to = c.args.s in
    sent_more (trade_step to) (λ g ms k. trade_keeps g ms to k) c.args.m.now c.args.out.now c.args.i c.loop-j.invariant c.send_trade-n.ensures

pub returns : goal.returns
returns c =
    let xs = c.args.m.now in
    let to = c.args.s in
    walk_last (trade_step to) (λ g ms k. trade_keeps g ms to k) xs c.args.out.now c.args.i _ (trades_to to) (trades_each xs to _ c.word_at-rows.ensures) c.loop-j.invariant c.loop-j.auto.j-end c.loop-j-test.false
