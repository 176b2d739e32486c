use Rattle.login.proofs.Entered.{laws}
use Rattle.login.proofs.balance_rows.Goals as goal

pub returns-then-is_funded : goal.returns-then-is_funded
returns-then-is_funded c = search laws

pub returns : goal.returns
returns c = search laws
