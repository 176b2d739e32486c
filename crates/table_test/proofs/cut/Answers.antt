use Rattle.table_test.proofs.Laws.{cut_to, did}
use Rattle.table_test.proofs.cut.Goals as goal

pub returns : goal.returns
returns c =
    rw c.put_u64.ensures (did (cut_to _ _ c.requires c.size-n.ensures c.close_at.ensures))
