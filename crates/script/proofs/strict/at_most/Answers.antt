use Rattle.script.proofs.Tests.{tests}
use Rattle.script.proofs.strict.at_most.Goals as goal

pub returns : goal.returns
returns c = search tests
