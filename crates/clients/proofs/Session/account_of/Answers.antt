use Rattle.clients.proofs.Laws.{no_account, its_account}
use Rattle.clients.proofs.Session.account_of.Goals as goal

pub returns-then-self-eq0 : goal.returns-then-self-eq0
returns-then-self-eq0 c = no_account c.args.self c.if-self-eq0.true

pub returns-else-self-eq0 : goal.returns-else-self-eq0
returns-else-self-eq0 c = its_account c.args.self c.if-self-eq0.false
