use native.Mathlib.Omega.{arith}
use Rattle.maps.proofs.Levels.{join_fits, join_many, join_outside, of_levels}
use Rattle.maps.proofs.join_code.Goals as goal

pub read_row-r-requires : goal.read_row-r-requires
read_row-r-requires c = search of_levels

pub returns-then-r-lt-GREATEST : goal.returns-then-r-lt-GREATEST
returns-then-r-lt-GREATEST c =
    let r = c.read_row-r.result in
    join_fits c.args.m.now c.args.s c.args.i c.args.key _ c.is_at.ensures c.if-is_at.true r c.read_row-r.ensures _ c.args.visible
    (omega (arith, c.if-visible-r.true, c.read_row-r.type_inv)) (omega (arith, c.if-r-lt-GREATEST.true))

pub returns-else-r-lt-GREATEST : goal.returns-else-r-lt-GREATEST
returns-else-r-lt-GREATEST c =
    join_many c.args.m.now c.args.s c.args.i c.args.key _ c.is_at.ensures c.if-is_at.true c.read_row-r.result c.read_row-r.ensures _ c.args.visible
    (omega (arith, c.if-r-lt-GREATEST.false))

pub returns-then-is_at : goal.returns-then-is_at
returns-then-is_at c =
    join_outside c.args.m.now c.args.s c.args.i c.args.key _ c.is_at.ensures c.if-is_at.true c.read_row-r.result c.read_row-r.ensures _ c.args.visible
    (omega (arith, c.if-visible-r.false))

pub returns-then-size-lt-MOST_LEVELS : goal.returns-then-size-lt-MOST_LEVELS
returns-then-size-lt-MOST_LEVELS c = search of_levels

pub returns-else-size-lt-MOST_LEVELS : goal.returns-else-size-lt-MOST_LEVELS
returns-else-size-lt-MOST_LEVELS c = search of_levels
