use Rattle.checkpoint.proofs.Calls.{laws}
use Rattle.checkpoint.proofs.is_quiet.Goals as goal

pub returns-then-word_at-ne0 : goal.returns-then-word_at-ne0
returns-then-word_at-ne0 c = search laws

pub returns : goal.returns
returns c = search laws
