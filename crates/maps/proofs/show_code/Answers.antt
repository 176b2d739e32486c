use native.Mathlib.Omega.{arith}
use Rattle.maps.proofs.Levels.{show_fits, show_outside, show_more, of_levels}
use Rattle.maps.proofs.show_code.Goals as goal

pub read_row-r-requires : goal.read_row-r-requires
read_row-r-requires c = search of_levels

pub returns-then-after-r : goal.returns-then-after-r
returns-then-after-r c =
    show_fits c.args.m.now c.args.s c.args.i c.args.key _ c.is_at.ensures c.if-is_at.true c.read_row-r.result c.read_row-r.ensures c.args.before c.args.after
    c.if-before-r.true (omega (arith, c.if-after-r.true, c.if-before-r.true, c.read_row-r.type_inv))

pub returns-else-after-r : goal.returns-else-after-r
returns-else-after-r c =
    show_outside c.args.m.now c.args.s c.args.i c.args.key _ c.is_at.ensures c.if-is_at.true c.read_row-r.result c.read_row-r.ensures c.args.before c.args.after
    c.if-before-r.true (omega (arith, c.if-after-r.false, c.if-before-r.true))

pub returns-else-before-r : goal.returns-else-before-r
returns-else-before-r c =
    show_more c.args.m.now c.args.s c.args.i c.args.key _ c.is_at.ensures c.if-is_at.true c.read_row-r.result c.read_row-r.ensures c.args.before c.args.after
    (omega (arith, c.if-before-r.false))

pub returns-else-is_at : goal.returns-else-is_at
returns-else-is_at c = search of_levels
