use mathlib.Core.Path.{refl}
use native.Mathlib.Omega.{arith}
use Rattle.gateway.specs.Limits.{session_slots}
use Rattle.outcome.proofs.Steps.{sent_first, sent_more, walk_room, walk_last}
use Rattle.deliver.specs.Delivering.{phase_step, phase_mail}
use Rattle.deliver.proofs.Phases.{phase_keeps, phase_each}
use borrow.Author.Rules.{rules}
use Rattle.deliver.proofs.tell_all.Goals as goal

pub loop-s-init : goal.loop-s-init
loop-s-init c =
    sent_first (phase_step c.args.n c.args.phase) (phase_keeps c.args.n c.args.phase) c.args.m.now c.args.out.now 0 c.requires.0

pub visit-i-requires : goal.visit-i-requires
visit-i-requires c =
    let xs = c.args.m.now in
    let t = c.loop-s.invariant in
    let h = c.loop-s-test.true in
    (t.sends.becomes.state, h, walk_room (phase_step c.args.n c.args.phase) (phase_keeps c.args.n c.args.phase) xs c.args.out.now 0 session_slots (phase_mail c.args.n c.args.phase) (phase_each c.args.n c.args.phase xs session_slots refl) t h _ (search rules))

pub loop-s-preserved : goal.loop-s-preserved
loop-s-preserved c =
    sent_more (phase_step c.args.n c.args.phase) (phase_keeps c.args.n c.args.phase) c.args.m.now c.args.out.now 0 c.loop-s.invariant c.visit-i.ensures

pub returns : goal.returns
returns c =
    let xs = c.args.m.now in
    walk_last (phase_step c.args.n c.args.phase) (phase_keeps c.args.n c.args.phase) xs c.args.out.now 0 session_slots (phase_mail c.args.n c.args.phase) (phase_each c.args.n c.args.phase xs session_slots refl) c.loop-s.invariant (omega (arith, c.loop-s.auto)) c.loop-s-test.false
