use mathlib.Core.Path.{refl}
use Rattle.trades.specs.Trades.{taker_fill, maker_fill}
use Rattle.trades.proofs.Calling.{weighed}
use Rattle.trades.proofs.weigh.Goals as goal

pub find_owners-requires : goal.find_owners-requires
find_owners-requires c =
    (c.requires.0, c.requires.1, weighed c.requires.2 (c.weigh-shift.ensures (taker_fill c.args.d) refl c.left-new.ensures), weighed c.requires.3 (c.weigh-maker_shift.ensures (maker_fill c.args.d) refl c.left-maker_new.ensures))
