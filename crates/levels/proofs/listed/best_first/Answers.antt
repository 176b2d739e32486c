use Prim.Native.Nat.{◌-◌}
use native.Mathlib.Omega.{arith}
use Rattle.store.specs.Layout.{cell}
use Rattle.levels.proofs.Filled.{none_filled, filled_few, one_skipped, one_filled, all_filled}
use Rattle.levels.proofs.listed.best_first.Goals as goal
use Rattle.levels.proofs.listed.best_first.Goals.{then-r-ne0, else-r-ne0}

pub loop-i-init : goal.loop-i-init
loop-i-init c = none_filled c.args.side (cell c.args.m.now) c.used-n.result

pub read_row-r-requires : goal.read_row-r-requires
read_row-r-requires c =
    (c.requires.holds, omega (arith, c.requires.few, c.used-n.ensures, c.nth.ensures.1))

pub offset_bounds-row-k : goal.offset_bounds-row-k
offset_bounds-row-k c =
    let f = filled_few c.args.side (cell c.args.m.now) c.used-n.result c.loop-i.i c.loop-i.k c.loop-i.row c.loop-i.invariant in
    omega (arith, f, c.requires.few, c.used-n.ensures, c.loop-i-test.true)

pub bounds-row-k : goal.bounds-row-k
bounds-row-k c =
    let f = filled_few c.args.side (cell c.args.m.now) c.used-n.result c.loop-i.i c.loop-i.k c.loop-i.row c.loop-i.invariant in
    omega (arith, f, c.requires.few, c.used-n.ensures, c.loop-i-test.true)

pub overflow_add-k : goal.overflow_add-k
overflow_add-k c =
    let f = filled_few c.args.side (cell c.args.m.now) c.used-n.result c.loop-i.i c.loop-i.k c.loop-i.row c.loop-i.invariant in
    omega (arith, f, c.requires.few, c.used-n.ensures, c.loop-i-test.true)

pub loop-i-preserved : goal.loop-i-preserved
loop-i-preserved c =
    elim c.if-r-ne0.branch [
      | then-r-ne0 w ↦ rw (w.row-is, w.k-is) (one_filled c.args.side (cell c.args.m.now) c.used-n.result c.loop-i.i c.loop-i.k c.nth.result c.loop-i.row c.read_row-r.result c.loop-i.invariant c.used-n.ensures c.loop-i-test.true c.nth.ensures.0 c.read_row-r.ensures w.level_of.result w.if-r-ne0.true (omega (arith, c.requires.few, c.used-n.ensures)) w.level_of.ensures)
      | else-r-ne0 w ↦ rw (w.row-is, w.k-is) (one_skipped c.args.side (cell c.args.m.now) c.used-n.result c.loop-i.i c.loop-i.k c.nth.result c.loop-i.row c.read_row-r.result c.loop-i.invariant c.used-n.ensures c.loop-i-test.true c.nth.ensures.0 c.read_row-r.ensures w.if-r-ne0.false)
    ]

pub returns : goal.returns
returns c =
    all_filled c.args.side (cell c.args.m.now) c.used-n.result c.loop-i.i c.loop-i.k c.loop-i.row c.loop-i.invariant c.loop-i-test.false c.used-n.ensures c.requires.counted
