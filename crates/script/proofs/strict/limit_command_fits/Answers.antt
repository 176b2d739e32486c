use Rattle.script.proofs.Tests.{tests}
use Rattle.script.proofs.strict.limit_command_fits.Goals as goal

pub returns-then-is_bit : goal.returns-then-is_bit
returns-then-is_bit c = search tests

pub returns : goal.returns
returns c = search tests
