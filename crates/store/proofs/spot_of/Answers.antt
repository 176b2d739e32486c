use mathlib.Core.Path.{refl}
use native.Mathlib.Omega.{arith}
use Rattle.store.specs.Layout.{spot}
use Rattle.store.proofs.Places.{spot_fits}
use Rattle.store.proofs.spot_of.Goals as goal

pub overflow_mul-result : goal.overflow_mul-result
overflow_mul-result c = rw c.width_of.ensures (omega (arith, spot_fits c.requires))

pub overflow_add-result : goal.overflow_add-result
overflow_add-result c = rw c.width_of.ensures (omega (arith, spot_fits c.requires))

pub overflow_add-result-2 : goal.overflow_add-result-2
overflow_add-result-2 c = rw (c.width_of.ensures, c.start_of.ensures) (omega (arith, spot_fits c.requires))

pub returns : goal.returns
unfolding spot
returns c = rw (c.width_of.ensures, c.start_of.ensures) (refl, spot_fits c.requires)
