use Rattle.holds.proofs.Judging.{judging}
use Rattle.holds.proofs.pair_fits.Goals as goal

pub returns-then-is_one : goal.returns-then-is_one
returns-then-is_one c = search judging
