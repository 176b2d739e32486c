use Rattle.deliver.proofs.Masses.{masses}
use Rattle.deliver.proofs.judge.Goals as goal

pub returns : goal.returns
returns c = search masses
