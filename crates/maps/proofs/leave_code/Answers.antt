use native.Mathlib.Omega.{arith}
use Rattle.maps.proofs.Levels.{leave_fits, leave_more, leave_none, of_levels}
use Rattle.maps.proofs.leave_code.Goals as goal

pub read_row-requires : goal.read_row-requires
read_row-requires c = search of_levels

pub returns-then-visible-read_row : goal.returns-then-visible-read_row
returns-then-visible-read_row c =
    leave_fits c.args.m.now c.args.s c.args.i c.args.key _ c.is_at.ensures c.if-is_at.true c.read_row.result c.read_row.ensures c.args.visible c.if-visible-read_row.true

pub returns-else-visible-read_row : goal.returns-else-visible-read_row
returns-else-visible-read_row c =
    leave_more c.args.m.now c.args.s c.args.i c.args.key _ c.is_at.ensures c.if-is_at.true c.read_row.result c.read_row.ensures c.args.visible (omega (arith, c.if-visible-read_row.false))

pub returns-else-is_at : goal.returns-else-is_at
returns-else-is_at c =
    leave_none c.args.m.now c.args.s c.args.i c.args.key _ c.is_at.ensures c.if-is_at.false c.args.visible
