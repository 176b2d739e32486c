use Rattle.deliver.proofs.Phases.{phases}
use Rattle.deliver.proofs.rows.Goals as goal

pub returns-then-is_open : goal.returns-then-is_open
returns-then-is_open c = search phases

pub returns : goal.returns
returns c = search phases
