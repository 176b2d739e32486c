use Rattle.std.proofs.Common.{arith}
use Rattle.roster.specs.Rostered.{entered}
use Rattle.roster.proofs.Tables.{entered_next}
use Rattle.roster.proofs.gather.Goals as goal

pub loop-a-init : goal.loop-a-init
unfolding entered
loop-a-init c = c.nobody-r.ensures

pub loop-a-preserved : goal.loop-a-preserved
loop-a-preserved c = entered_next _ _ _ _ _ _ (omega arith) c.loop-a.invariant c.enter-r.ensures
