use Rattle.login.proofs.Entered.{laws}
use Rattle.login.proofs.link.Goals as goal

pub returns : goal.returns
returns c = search laws
