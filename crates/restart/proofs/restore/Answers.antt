use Rattle.restart.specs.Chain.{begun}
use Rattle.restart.proofs.restore.Goals as goal

pub returns : goal.returns
returns c = rw c.code_of.ensures (begun c.restore_one.ensures)
