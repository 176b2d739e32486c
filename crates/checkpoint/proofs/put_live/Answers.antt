use Rattle.checkpoint.proofs.Calls.{laws}
use Rattle.checkpoint.proofs.put_live.Goals as goal

pub returns-then-get-eq0 : goal.returns-then-get-eq0
returns-then-get-eq0 c = search laws

pub put_order-requires : goal.put_order-requires
put_order-requires c = search laws

pub returns : goal.returns
returns c = search laws
