use Rattle.script.proofs.Tests.{tests}
use Rattle.script.proofs.strict.event_fits.Goals as goal

pub returns-in-1 : goal.returns-in-1
returns-in-1 c = search tests

pub returns-in-2 : goal.returns-in-2
returns-in-2 c = search tests

pub returns-in-3 : goal.returns-in-3
returns-in-3 c = search tests

pub returns-in-4 : goal.returns-in-4
returns-in-4 c = search tests

pub returns-in-5 : goal.returns-in-5
returns-in-5 c = search tests

pub returns-in-7 : goal.returns-in-7
returns-in-7 c = search tests

pub returns-in-9 : goal.returns-in-9
returns-in-9 c = search tests

pub returns-in-10 : goal.returns-in-10
returns-in-10 c = search tests

pub returns-in_default : goal.returns-in_default
returns-in_default c = search tests
