use native.Mathlib.Omega.{arith}
use mathlib.Core.Path.{◌∙◌}
use Rattle.words.proofs.Int.{read}
use Rattle.bookevents.proofs.Changing.{repriced}
use Rattle.bookevents.proofs.price_of.Goals as goal

pub returns : goal.returns
returns c =
    repriced c.args.price c.args.leaves _ (omega arith) (c.of_i64.ensures ∙ read {x = c.args.price} c.ranges.price.sfits) c.ranges.leaves.fits
