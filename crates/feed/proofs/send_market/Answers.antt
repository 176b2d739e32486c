use mathlib.Core.Path.{refl}
use Rattle.gateway.specs.Limits.{session_slots}
use Rattle.outcome.proofs.Steps.{sent_first, sent_more, walk_room, walk_last}
use Rattle.feed.specs.Feed.{changes_step, market}
use Rattle.feed.proofs.Stamps.{changes_keeps}
use Rattle.feed.proofs.Changes.{sessions_each}
use Rattle.feed.proofs.send_market.Goals as goal

pub loop-s-init : goal.loop-s-init
loop-s-init c =
    sent_first changes_step changes_keeps c.args.m.now c.args.out.now c.args.i c.requires.0

pub visit-n-requires : goal.visit-n-requires
visit-n-requires c =
    let xs = c.args.m.now in
    let t = c.loop-s.invariant in
    let h = c.loop-s-test.true in
    (t.sends.becomes.state, h, walk_room changes_step changes_keeps xs c.args.out.now c.args.i session_slots market (sessions_each xs session_slots refl) t h _ (rw c.loop-s.auto.out c.requires.1))

pub loop-s-preserved : goal.loop-s-preserved
loop-s-preserved c =
    sent_more changes_step changes_keeps c.args.m.now c.args.out.now c.args.i c.loop-s.invariant c.visit-n.ensures

pub returns : goal.returns
returns c =
    let xs = c.args.m.now in
    walk_last changes_step changes_keeps xs c.args.out.now c.args.i session_slots market (sessions_each xs session_slots refl) c.loop-s.invariant c.loop-s.auto.s-end c.loop-s-test.false
