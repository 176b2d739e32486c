use mathlib.Core.Path.{◌≡◌, refl}
use Prim.Native.Nat.{◌-◌}
use native.Mathlib.Omega.{arith}
use Rattle.gateway.specs.Depth.{level}
use Rattle.gateway.specs.Listing.{listed_depth}
use Rattle.pending.specs.Pending.{key}
use Rattle.listing.proofs.Listings.{sum_none, sum_more}
use Rattle.listing.proofs.Laws.{shown_fits}
use Rattle.listing.proofs.shown_from.Goals as goal

pub loop-j-init : goal.loop-j-init
loop-j-init c =
    let a = c.args in let e = c.rows-j.ensures in (rw e (c.requires.0), rw e (sum_none a.list.now (λ x. (level (key a.side a.price) (listed_depth x)).qty) refl))

pub overflow_add-q : goal.overflow_add-q
overflow_add-q c =
    let a = c.args in
    let t = sum_more a.list.now (λ x. (level (key a.side a.price) (listed_depth x)).qty) c.loop-j.q c.shows-q.result c.loop-j.j (omega arith) c.loop-j.invariant.1 c.shows-q.ensures in
    omega (arith, t, shown_fits a.list.now a.i (c.loop-j.j - 1) (omega arith) (omega arith) (key a.side a.price) c.requires.1)

pub loop-j-preserved : goal.loop-j-preserved
loop-j-preserved c =
    let a = c.args in (omega arith, sum_more a.list.now (λ x. (level (key a.side a.price) (listed_depth x)).qty) c.loop-j.q c.shows-q.result c.loop-j.j (omega arith) c.loop-j.invariant.1 c.shows-q.ensures)

pub returns : goal.returns
returns c =
    let e : c.loop-j.j ≡ c.args.i = omega arith in
    rw e at c.loop-j.invariant.1
