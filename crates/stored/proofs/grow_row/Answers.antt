use Rattle.stored.proofs.Laws.{laws}
use Rattle.stored.proofs.grow_row.Goals as goal

pub loop-i-init : goal.loop-i-init
loop-i-init c = search laws

pub loop-i-preserved : goal.loop-i-preserved
loop-i-preserved c = search laws

pub returns : goal.returns
returns c = search laws
