use Rattle.login.proofs.Entered.{laws}
use Rattle.login.proofs.login.Goals as goal

pub accept-requires : goal.accept-requires
accept-requires c = search laws

pub returns-in-None : goal.returns-in-None
returns-in-None c = search laws

pub returns-in-Some : goal.returns-in-Some
returns-in-Some c = search laws
