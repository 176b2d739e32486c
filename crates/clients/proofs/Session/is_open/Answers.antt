use Rattle.clients.specs.Clients.{session_in}
use Rattle.clients.proofs.Laws.{not_open, open_present}
use Rattle.clients.proofs.Session.is_open.Goals as goal

pub returns-then-account_of-eq0 : goal.returns-then-account_of-eq0
returns-then-account_of-eq0 c = not_open (session_in c.args.self) _ c.account_of.ensures.known c.if-account_of-eq0.true

pub returns-else-account_of-eq0 : goal.returns-else-account_of-eq0
returns-else-account_of-eq0 c = open_present (session_in c.args.self) _ _ c.account_of.ensures.known c.if-account_of-eq0.false c.is_present.ensures
