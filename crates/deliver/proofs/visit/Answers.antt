use Rattle.deliver.proofs.Phases.{phases}
use Rattle.deliver.proofs.visit.Goals as goal

pub send-requires : goal.send-requires
send-requires c = search phases

pub returns-then-is_open : goal.returns-then-is_open
returns-then-is_open c = search phases

pub returns : goal.returns
returns c = search phases
