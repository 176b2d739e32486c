use mathlib.Core.Path.{refl}
use native.Mathlib.Omega.{arith}
use Rattle.ticks.proofs.Ticked.{count_more, count_all}
use Rattle.ticks.proofs.count.Goals as goal

pub loop-s-init : goal.loop-s-init
loop-s-init c = (omega arith, refl)

pub loop-s-preserved : goal.loop-s-preserved
loop-s-preserved c =
    (omega arith, count_more c.args.m.now c.args.time c.loop-s.s c.loop-s.n _ _ (omega arith) c.loop-s.invariant.1 c.due_at.ensures c.rows-n.ensures.0)

pub returns : goal.returns
returns c =
    count_all c.args.m.now c.args.time c.loop-s.s c.loop-s.n c.loop-s-test.false c.loop-s.invariant.1
