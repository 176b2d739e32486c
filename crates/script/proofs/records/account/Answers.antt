use Rattle.script.proofs.Tests.{tests}
use Rattle.script.proofs.records.account.Goals as goal

pub returns : goal.returns
returns c = search tests
