use Rattle.pretrade.proofs.Collars.{collars}
use Rattle.pretrade.proofs.collar.plus_one.Goals as goal

pub returns-in-Some : goal.returns-in-Some
returns-in-Some c = search collars
