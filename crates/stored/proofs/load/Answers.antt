use Rattle.std.proofs.Common.{rules}
use Rattle.stored.specs.Rows as R
use Rattle.stored.proofs.load.Goals as goal

pub returns : goal.returns
unfolding R.load_at
returns c = search rules
