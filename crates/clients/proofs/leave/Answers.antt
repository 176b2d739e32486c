use Rattle.clients.proofs.Laws.{leave_nobody, leave_is}
use Rattle.clients.proofs.leave.Goals as goal

pub returns-then-a-eq0 : goal.returns-then-a-eq0
returns-then-a-eq0 c = leave_nobody _ c.requires.0 c.if-a-eq0.true

pub returns : goal.returns
returns c =
    leave_is _ c.requires.0 c.if-a-eq0.false c.requires.1 c.set.ensures
