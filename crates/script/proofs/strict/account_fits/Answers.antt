use Rattle.script.proofs.Tests.{tests}
use Rattle.script.proofs.strict.account_fits.Goals as goal

pub returns-then-at_most : goal.returns-then-at_most
returns-then-at_most c = search tests

pub returns : goal.returns
returns c = search tests
