use Rattle.deliver.proofs.Masses.{masses}
use Rattle.deliver.proofs.listener.Goals as goal

pub returns-then-owner-lt-OWNER_SLOTS : goal.returns-then-owner-lt-OWNER_SLOTS
returns-then-owner-lt-OWNER_SLOTS c = search masses

pub returns : goal.returns
returns c = search masses
