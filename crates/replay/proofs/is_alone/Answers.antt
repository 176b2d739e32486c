use mathlib.Core.Path.{refl}
use Rattle.replay.proofs.Alone.{alone}
use Rattle.replay.proofs.is_alone.Goals as goal

pub loop-s-init : goal.loop-s-init
loop-s-init c =
    refl

pub returns-then-x-ne0 : goal.returns-then-x-ne0
returns-then-x-ne0 c = search alone

pub loop-s-preserved : goal.loop-s-preserved
loop-s-preserved c = search alone

pub returns : goal.returns
returns c = search alone
