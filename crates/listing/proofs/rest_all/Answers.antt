use mathlib.Core.Path.{◌≡◌}
use native.Mathlib.Omega.{arith}
use Rattle.listing.proofs.Laws.{none_rest, row_can, row_rests}
use Rattle.listing.proofs.rest_all.Goals as goal

pub loop-j-init : goal.loop-j-init
loop-j-init c =
    let e = c.rows-j.ensures in rw e (none_rest c.args.list.now c.args.m.now c.requires.1 c.requires.0)

pub rest_row-requires : goal.rest_row-requires
rest_row-requires c =
    (c.loop-j.invariant.state, omega arith, row_can c.args.list.now c.args.m.now c.requires.1 c.loop-j.j (omega arith) (omega arith) c.loop-j.invariant)

pub loop-j-preserved : goal.loop-j-preserved
loop-j-preserved c =
    row_rests c.args.list.now c.args.m.now c.requires.1 c.loop-j.j (omega arith) (omega arith) c.loop-j.invariant c.rest_row.ensures

pub returns : goal.returns
returns c =
    let e : c.loop-j.j ≡ 0 = omega arith in
    rw e at c.loop-j.invariant
