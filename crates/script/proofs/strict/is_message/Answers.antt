use Rattle.script.proofs.Tests.{tests}
use Rattle.script.proofs.strict.is_message.Goals as goal

pub returns-then-row-ne128 : goal.returns-then-row-ne128
returns-then-row-ne128 c = search tests

pub returns : goal.returns
returns c = search tests
