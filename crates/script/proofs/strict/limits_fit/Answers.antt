use Rattle.script.proofs.Tests.{tests}
use Rattle.script.proofs.strict.limits_fit.Goals as goal

pub returns-then-are_small : goal.returns-then-are_small
returns-then-are_small c = search tests

pub returns : goal.returns
returns c = search tests
