use Rattle.ticks.proofs.Ticked.{turn_first, turn_room, turn_more, turn_last}
use Rattle.ticks.proofs.apply.Goals as goal

pub loop-s-init : goal.loop-s-init
loop-s-init c =
    turn_first c.args.m.now c.args.out.now c.requires.0

pub visit-n-requires : goal.visit-n-requires
visit-n-requires c =
    let t = c.loop-s.invariant in
    let h = c.loop-s-test.true in
    (t.becomes.state, h, turn_room c.args.m.now c.args.out.now t h _ (rw c.loop-s.auto.out c.requires.1))

pub loop-s-preserved : goal.loop-s-preserved
loop-s-preserved c =
    let h = c.loop-s-test.true in
    turn_more c.args.m.now c.args.out.now c.loop-s.invariant h c.visit-n.ensures

pub returns : goal.returns
returns c =
    turn_last c.args.m.now c.args.out.now c.loop-s.invariant c.loop-s-test.false
