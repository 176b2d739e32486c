use Rattle.reporting.proofs.Laws.{reports}
use Rattle.reporting.proofs.report.Goals as goal

pub returns-in_default : goal.returns-in_default
returns-in_default c = search reports
