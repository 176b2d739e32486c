use mathlib.Core.Path.{◌≡◌, refl}
use Prim.Native.Nat.{◌-◌}
use native.Mathlib.Omega.{arith}
use Rattle.gateway.specs.Depth.{level}
use Rattle.gateway.specs.Listing.{listed_depth}
use Rattle.pending.specs.Pending.{key}
use Rattle.listing.proofs.Listings.{sum_none, sum_more}
use Rattle.listing.proofs.Laws.{orders_fit}
use Rattle.listing.proofs.orders_from.Goals as goal

pub loop-j-init : goal.loop-j-init
loop-j-init c =
    let a = c.args in let e = c.rows-j.ensures in (rw e c.requires, rw e (sum_none a.list.now (λ x. (level (key a.side a.price) (listed_depth x)).orders) refl))

pub overflow_add-n : goal.overflow_add-n
overflow_add-n c =
    let a = c.args in
    let t = sum_more a.list.now (λ x. (level (key a.side a.price) (listed_depth x)).orders) c.loop-j.n c.counts-n.result c.loop-j.j (omega arith) c.loop-j.invariant.1 c.counts-n.ensures in
    omega (arith, t, orders_fit a.list.now (c.loop-j.j - 1) (key a.side a.price))

pub loop-j-preserved : goal.loop-j-preserved
loop-j-preserved c =
    let a = c.args in (omega arith, sum_more a.list.now (λ x. (level (key a.side a.price) (listed_depth x)).orders) c.loop-j.n c.counts-n.result c.loop-j.j (omega arith) c.loop-j.invariant.1 c.counts-n.ensures)

pub returns : goal.returns
returns c =
    let e : c.loop-j.j ≡ c.args.i = omega arith in
    rw e at c.loop-j.invariant.1
