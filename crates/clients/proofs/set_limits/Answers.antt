use Rattle.clients.proofs.Laws.{no_sets, then_sets, sets_is}
use native.Mathlib.Omega.{arith}
use mathlib.Core.Path.{refl}
use Rattle.clients.proofs.set_limits.Goals as goal

pub returns : goal.returns
returns c =
    sets_is _ _ _ c.requires.0 (omega arith) c.requires.1 refl (then_sets c.set.ensures (then_sets c.set-2.ensures (then_sets c.set-3.ensures (then_sets c.set-4.ensures no_sets))))
