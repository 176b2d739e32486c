use Rattle.reporting.proofs.Laws.{reports}
use Rattle.reporting.proofs.sender_of.Goals as goal

pub returns-then-speaks_for : goal.returns-then-speaks_for
returns-then-speaks_for c = search reports
