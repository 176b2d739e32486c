use Rattle.replay.proofs.Judging.{judging}
use Rattle.replay.proofs.order_fits.Goals as goal

pub returns-then-is_funded : goal.returns-then-is_funded
returns-then-is_funded c = search judging

pub returns-else-is_funded : goal.returns-else-is_funded
returns-else-is_funded c = search judging

pub returns-else-a-lt-OWNER_SLOTS : goal.returns-else-a-lt-OWNER_SLOTS
returns-else-a-lt-OWNER_SLOTS c = search judging
