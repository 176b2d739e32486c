use Rattle.login.proofs.Entered.{laws}
use Rattle.login.proofs.post_balance.Goals as goal

pub send-requires : goal.send-requires
send-requires c = search laws

pub returns-in-None : goal.returns-in-None
returns-in-None c = search laws

pub returns-in-Some : goal.returns-in-Some
returns-in-Some c = search laws
