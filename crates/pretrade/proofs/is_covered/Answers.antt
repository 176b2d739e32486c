use Rattle.pretrade.proofs.Testing.{testing}
use Rattle.pretrade.proofs.is_covered.Goals as goal

pub returns-in-Some : goal.returns-in-Some
returns-in-Some c = search testing

pub returns-in-None : goal.returns-in-None
returns-in-None c = search testing
