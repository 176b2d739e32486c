use Rattle.checkpoint.proofs.Calls.{laws}
use Rattle.checkpoint.proofs.put_slot.Goals as goal

pub put_wallet-requires : goal.put_wallet-requires
put_wallet-requires c = search laws

pub returns-then-is_funded : goal.returns-then-is_funded
returns-then-is_funded c = search laws

pub returns : goal.returns
returns c = search laws
