use Rattle.table_test.specs.Test.{count}
use Rattle.table_test.proofs.size.Goals as goal

pub returns : goal.returns
unfolding count
returns c = c.get_u64.ensures
