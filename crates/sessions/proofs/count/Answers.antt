use mathlib.Core.Path.{refl}
use native.Mathlib.Omega.{arith}
use Rattle.outcome.specs.Parts.{rest_of}
use Rattle.outcome.proofs.Walk.{slots, count_more, count_all}
use Rattle.sessions.specs.Sessions.{down_mail}
use Rattle.sessions.proofs.count.Goals as goal

pub loop-s-init : goal.loop-s-init
loop-s-init c = (omega arith, refl)

pub loop-s-preserved : goal.loop-s-preserved
loop-s-preserved c =
    let m = c.args.m.now in
    (omega arith, count_more down_mail (rest_of m) (slots m) c.loop-s.s c.loop-s.n _ (omega arith) c.loop-s.invariant.1 c.rows-n.ensures.0)

pub returns : goal.returns
returns c =
    let m = c.args.m.now in
    count_all down_mail (rest_of m) (slots m) c.loop-s.s c.loop-s.n c.loop-s-test.false c.loop-s.invariant.1
