use mathlib.Core.Path.{refl}
use native.Mathlib.Omega.{arith}
use Rattle.store.specs.View.{listed}
use Rattle.store.proofs.Places.{spot_fits}
use Rattle.store.proofs.Rows.{cell_in}
use Rattle.store.proofs.Listed.{front_more, front_all}
use Rattle.store.proofs.read.Goals as goal

pub loop-j-init : goal.loop-j-init
unfolding listed
loop-j-init c =
    refl

pub overflow_add-k : goal.overflow_add-k
overflow_add-k c =
    omega (arith, spot_fits (cell_in c.loop-j.j c.requires.1 (omega arith)))

pub get-requires : goal.get-requires
get-requires c =
    (c.requires.0, cell_in c.loop-j.j c.requires.1 (omega arith))

pub loop-j-preserved : goal.loop-j-preserved
loop-j-preserved c =
    front_more _ c.loop-j.vs c.loop-j.j _ (omega arith) c.loop-j.invariant c.get.ensures

pub returns : goal.returns
returns c =
    front_all _ c.loop-j.vs c.loop-j.j _ (omega arith) c.loop-j.invariant (omega arith)
