use native.Mathlib.Omega.{arith}
use Rattle.subscribe.proofs.Shown.{row_small, shown_none, shown_skip, shown_below, shown_more, shown_all}
use Rattle.subscribe.proofs.Snapshot.{orders_few, level_mail, levels_posted}
use borrow.Author.Rules.{rules}
use Rattle.subscribe.proofs.post_side.Goals as goal
use Rattle.subscribe.proofs.post_side.Goals.{then-r-ne0, else-r-ne0}

pub loop-j-init : goal.loop-j-init
loop-j-init c =
    shown_none 96 c.args.i (level_mail c.args.s c.args.side c.args.m.now) c.args.side c.args.m.now c.args.out.now

pub read_row-r-requires : goal.read_row-r-requires
read_row-r-requires c =
    (c.requires.0.holds, row_small c.requires.0 c.args.side c.used-n.ensures c.nth.ensures.1)

pub post_level-requires : goal.post_level-requires
post_level-requires c =
    let st = c.requires.0 in
    let v = c.loop-j.invariant in
    let below = shown_below v c.used-n.ensures c.loop-j-test.true c.nth.ensures.0 c.read_row-r.ensures c.if-r-ne0.true st in
    (st, orders_few st c.args.side _ c.used-n.ensures c.loop-j-test.true c.nth.ensures.0 c.read_row-r.ensures c.if-r-ne0.true, rw v.long (omega (arith, below, c.requires.1)))

pub overflow_add-k : goal.overflow_add-k
overflow_add-k c =
    let below = shown_below c.loop-j.invariant c.used-n.ensures c.loop-j-test.true c.nth.ensures.0 c.read_row-r.ensures c.if-r-ne0.true c.requires.0 in
    omega (arith, below, c.requires.1)

pub loop-j-preserved : goal.loop-j-preserved
loop-j-preserved c =
    elim c.if-r-ne0.branch [
      | then-r-ne0 w ↦
          rw (w.k-is, w.out-is)
          (shown_more c.loop-j.invariant c.used-n.ensures c.loop-j-test.true c.nth.ensures.0 c.read_row-r.ensures w.if-r-ne0.true w.post_level.ensures (search rules))
      | else-r-ne0 w ↦ rw (w.k-is, w.out-is) (shown_skip c.loop-j.invariant c.used-n.ensures c.loop-j-test.true c.nth.ensures.0 c.read_row-r.ensures w.if-r-ne0.false)
    ]

pub shape_of-out : goal.shape_of-out
shape_of-out c = c.loop-j.invariant.long

pub returns : goal.returns
returns c =
    levels_posted c.args.s c.args.side c.args.m.now (shown_all c.loop-j.invariant c.used-n.ensures c.requires.0 c.loop-j.auto.j-end c.loop-j-test.false)
