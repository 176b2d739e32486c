use Rattle.pretrade.proofs.Collars.{collars}
use Rattle.pretrade.proofs.collar.set_paper_collar.Goals as goal

pub returns : goal.returns
returns c = search collars
