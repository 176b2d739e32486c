use Rattle.script.proofs.Tests.{tests}
use Rattle.script.proofs.strict.is_account.Goals as goal

pub returns-then-row-ne56 : goal.returns-then-row-ne56
returns-then-row-ne56 c = search tests

pub returns : goal.returns
returns c = search tests
