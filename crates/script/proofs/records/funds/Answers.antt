use Rattle.script.proofs.Tests.{tests}
use Rattle.script.proofs.records.funds.Goals as goal

pub returns-then-word-eq0 : goal.returns-then-word-eq0
returns-then-word-eq0 c = search tests

pub returns : goal.returns
returns c = search tests
