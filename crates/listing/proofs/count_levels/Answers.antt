use mathlib.Core.Path.{◌≡◌, refl}
use Prim.Native.Nat.{◌-◌}
use native.Mathlib.Omega.{arith}
use lib.ListN.{length}
use Rattle.gateway.specs.Depth.{levels}
use Rattle.gateway.specs.Listing.{resting_in}
use Rattle.store.specs.View as View
use Rattle.listing.proofs.Listings.{sum_none, sum_more}
use Rattle.listing.proofs.Laws.{levels_number}
use Rattle.listing.proofs.count_levels.Goals as goal

pub loop-j-init : goal.loop-j-init
loop-j-init c =
    let a = c.args in let e = c.rows-j.ensures in rw e (sum_none a.list.now (λ x. length (levels (View.side a.side) (resting_in x))) refl)

pub overflow_add-n : goal.overflow_add-n
overflow_add-n c =
    let a = c.args in
    let t = sum_more a.list.now (λ x. length (levels (View.side a.side) (resting_in x))) c.loop-j.n c.opens-n.result c.loop-j.j (omega arith) c.loop-j.invariant c.opens-n.ensures in
    omega (arith, t, levels_number a.list.now (c.loop-j.j - 1) (View.side a.side))

pub loop-j-preserved : goal.loop-j-preserved
loop-j-preserved c =
    let a = c.args in sum_more a.list.now (λ x. length (levels (View.side a.side) (resting_in x))) c.loop-j.n c.opens-n.result c.loop-j.j (omega arith) c.loop-j.invariant c.opens-n.ensures

pub returns : goal.returns
returns c =
    let e : c.loop-j.j ≡ 0 = omega arith in
    rw e at c.loop-j.invariant
