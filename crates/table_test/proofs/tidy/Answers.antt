use Rattle.table_test.proofs.Laws.{tidy_to}
use Rattle.table_test.proofs.tidy.Goals as goal

pub returns : goal.returns
returns c =
    rw c.put_u64.ensures (tidy_to _ _ c.requires c.size-n.ensures c.compact-w.ensures)
