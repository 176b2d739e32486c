use mathlib.Core.Path.{refl}
use Rattle.pending.proofs.Chain.{buy_slot, sell_slot}
use Rattle.pending.proofs.changed.slot.Goals as goal

pub returns-then-side-eq0 : goal.returns-then-side-eq0
returns-then-side-eq0 c = buy_slot c.args.side c.args.price _ c.ranges.price.fits refl c.if-side-eq0.true

pub returns-else-side-eq0 : goal.returns-else-side-eq0
returns-else-side-eq0 c = sell_slot c.args.side c.args.price _ c.ranges.price.fits refl c.if-side-eq0.false
