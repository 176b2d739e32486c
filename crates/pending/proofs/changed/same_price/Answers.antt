use Rattle.pending.proofs.Keys.{same_price_is}
use Rattle.pending.proofs.changed.same_price.Goals as goal

pub returns : goal.returns
returns c = same_price_is _ _ c.ranges.a.fits c.ranges.b.fits
