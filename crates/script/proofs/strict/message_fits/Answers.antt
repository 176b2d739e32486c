use Rattle.script.proofs.Tests.{tests}
use Rattle.script.proofs.strict.message_fits.Goals as goal

pub returns-in-0 : goal.returns-in-0
returns-in-0 c = search tests

pub returns-in-3 : goal.returns-in-3
returns-in-3 c = search tests

pub returns-in_default : goal.returns-in_default
returns-in_default c = search tests
