use Rattle.holds.proofs.Judging.{judging}
use Rattle.holds.proofs.fits.Goals as goal

pub returns : goal.returns
returns c = search judging
