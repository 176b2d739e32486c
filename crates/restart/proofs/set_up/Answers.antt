use Rattle.restart.specs.Chain.{begun}
use Rattle.restart.proofs.set_up.Goals as goal

pub returns : goal.returns
returns c = rw c.code_of.ensures (begun c.set_up_one.ensures)
