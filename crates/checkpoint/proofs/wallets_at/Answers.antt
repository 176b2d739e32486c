use Rattle.checkpoint.proofs.Calls.{laws}
use Rattle.checkpoint.proofs.wallets_at.Goals as goal

pub returns-then-is_funded : goal.returns-then-is_funded
returns-then-is_funded c = search laws

pub returns : goal.returns
returns c = search laws
