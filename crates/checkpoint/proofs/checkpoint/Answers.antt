use Rattle.checkpoint.proofs.Calls.{laws}
use Rattle.checkpoint.proofs.checkpoint.Goals as goal

pub returns-then-not-is_quiet : goal.returns-then-not-is_quiet
returns-then-not-is_quiet c = search laws

pub returns-then-out-size : goal.returns-then-out-size
returns-then-out-size c = search laws

pub returns : goal.returns
returns c = search laws
