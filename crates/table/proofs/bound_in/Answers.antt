use Rattle.table.proofs.Moves.{mono}
use Rattle.table.proofs.Search.{rows_few, part, first_rows, between_counted, between_end}
use native.Mathlib.Omega.{arith}
use mathlib.Core.Path.{◌≡◌}
use Prim.Native.Nat.{◌+◌, ◌*◌, ◌-◌, ◌/◌, ◌≤◌}
use Rattle.table.proofs.bound_in.Goals as goal

pub loop-left-init : goal.loop-left-init
loop-left-init c = c.requires.1

pub overflow_add-w : goal.overflow_add-w
overflow_add-w c = omega (arith, rows_few c.requires.0.room)

pub count-c-requires : goal.count-c-requires
count-c-requires c =
    let p = part c.loop-left.left c.args.many (omega arith) in
    (first_rows _ c.requires.0 (omega (arith, p.1)), p.0)

pub overflow_mul-lo : goal.overflow_mul-lo
overflow_mul-lo c =
    let p = part c.loop-left.left c.args.many (omega arith) in
    omega (arith, mono ((c.loop-left.left + 1) / (c.args.many + 1)) c.count-c.ensures.few, p.1, rows_few c.requires.0.room)

pub overflow_add-lo : goal.overflow_add-lo
overflow_add-lo c =
    let p = part c.loop-left.left c.args.many (omega arith) in
    omega (arith, mono ((c.loop-left.left + 1) / (c.args.many + 1)) c.count-c.ensures.few, p.1, rows_few c.requires.0.room)

pub overflow_mul-left : goal.overflow_mul-left
overflow_mul-left c =
    let p = part c.loop-left.left c.args.many (omega arith) in
    omega (arith, p.1)

pub overflow_sub-left : goal.overflow_sub-left
overflow_sub-left c =
    let p = part c.loop-left.left c.args.many (omega arith) in
    omega (arith, p.1, p.0)

pub loop-left-smaller : goal.loop-left-smaller
loop-left-smaller c =
    let p = part c.loop-left.left c.args.many (omega arith) in
    let one : 1 ≤ c.args.many = omega arith in
    omega (arith, p.0, p.1, mono ((c.loop-left.left + 1) / (c.args.many + 1)) one)

pub loop-left-preserved : goal.loop-left-preserved
loop-left-preserved c =
    let p = part c.loop-left.left c.args.many (omega arith) in
    between_counted c.args.key c.loop-left.lo c.loop-left.left ((c.loop-left.left + 1) / (c.args.many + 1)) c.args.many c.count-c.result c.requires.0.asc c.loop-left.invariant p.0 (omega (arith, p.0, p.1)) p.1 c.count-c.ensures

pub count-requires : goal.count-requires
count-requires c = (first_rows _ c.requires.0 (omega arith), omega arith)

pub overflow_add-result : goal.overflow_add-result
overflow_add-result c = omega (arith, c.count.ensures.few)

pub returns : goal.returns
returns c =
    let r = c.count.result in
    let e : 1 * r ≡ r = omega arith in
    between_end (omega arith)
    (rw e at (between_counted c.args.key c.loop-left.lo c.loop-left.left 1 c.loop-left.left r c.requires.0.asc c.loop-left.invariant (omega arith) (omega arith) (omega arith) c.count.ensures))
