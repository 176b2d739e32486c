use native.Mathlib.Omega.{arith}
use Rattle.store.proofs.Places.{spot_fits}
use Rattle.store.proofs.Rows.{cell_in, filled_none, filled_more, filled_all}
use Rattle.store.proofs.fill.Goals as goal

pub loop-j-init : goal.loop-j-init
loop-j-init c =
    filled_none _ _ _ _ c.args.vs.now c.requires.0

pub overflow_add-k : goal.overflow_add-k
overflow_add-k c =
    omega (arith, spot_fits (cell_in c.loop-j.j c.requires.1 c.loop-j-test.true))

pub set-requires : goal.set-requires
set-requires c =
    (c.loop-j.invariant.holds, cell_in c.loop-j.j c.requires.1 c.loop-j-test.true)

pub loop-j-preserved : goal.loop-j-preserved
loop-j-preserved c =
    filled_more _ _ _ _ _ c.loop-j.j _ _ c.requires.1 c.loop-j-test.true c.loop-j.invariant c.set.ensures

pub returns : goal.returns
returns c = filled_all _ _ _ _ _ c.loop-j.j _ c.loop-j-test.false c.loop-j.invariant
