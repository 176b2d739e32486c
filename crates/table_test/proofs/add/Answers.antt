use Rattle.table_test.proofs.Laws.{sorted, place}
use native.Mathlib.Omega.{arith}
use Rattle.table_test.proofs.add.Goals as goal

pub lower_bound-i-requires : goal.lower_bound-i-requires
lower_bound-i-requires c = sorted c.requires c.size-n.ensures

pub put_in-requires : goal.put_in-requires
put_in-requires c =
    place _ _ _ _ c.requires c.size-n.ensures (omega arith) c.lower_bound-i.ensures (rw c.if-is_at.false at c.is_at.ensures)
