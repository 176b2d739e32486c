use Rattle.script.proofs.Tests.{tests}
use Rattle.script.proofs.strict.is_command.Goals as goal

pub returns-then-row-ne96 : goal.returns-then-row-ne96
returns-then-row-ne96 c = search tests

pub returns : goal.returns
returns c = search tests
