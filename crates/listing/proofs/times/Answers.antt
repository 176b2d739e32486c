use mathlib.Core.Path.{◌≡◌, refl}
use Prim.Native.Nat.{◌-◌}
use native.Mathlib.Omega.{arith}
use Rattle.gateway.specs.Listing.{listed_times}
use Rattle.listing.proofs.Listings.{sum_none, sum_more, times_fit}
use Rattle.listing.proofs.times.Goals as goal

pub loop-j-init : goal.loop-j-init
loop-j-init c =
    let a = c.args in let e = c.rows-j.ensures in rw e (sum_none a.list.now (listed_times a.number) refl)

pub overflow_add-n : goal.overflow_add-n
overflow_add-n c =
    let a = c.args in
    let t = sum_more a.list.now (listed_times a.number) c.loop-j.n c.bears-n.result c.loop-j.j (omega arith) c.loop-j.invariant c.bears-n.ensures in
    omega (arith, t, times_fit a.list.now a.number (c.loop-j.j - 1))

pub loop-j-preserved : goal.loop-j-preserved
loop-j-preserved c =
    let a = c.args in sum_more a.list.now (listed_times a.number) c.loop-j.n c.bears-n.result c.loop-j.j (omega arith) c.loop-j.invariant c.bears-n.ensures

pub returns : goal.returns
returns c =
    let e : c.loop-j.j ≡ 0 = omega arith in
    rw e at c.loop-j.invariant
