use Rattle.holds.proofs.Judging.{judging}
use Rattle.holds.proofs.both_fit.Goals as goal

pub returns-then-is_small : goal.returns-then-is_small
returns-then-is_small c = search judging
