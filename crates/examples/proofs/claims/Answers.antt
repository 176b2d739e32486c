use Rattle.examples.proofs.Table.{examples}
use Rattle.examples.proofs.claims.Goals as goal

pub returns : goal.returns
returns c = examples
