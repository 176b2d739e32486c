use Rattle.table_test.specs.Test.{read}
use Rattle.table_test.proofs.read_row.Goals as goal

pub returns : goal.returns
unfolding read
returns c = cc
