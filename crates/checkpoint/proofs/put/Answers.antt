use Rattle.checkpoint.proofs.Calls.{laws}
use Rattle.checkpoint.proofs.put.Goals as goal

pub put_order_section-requires : goal.put_order_section-requires
put_order_section-requires c = search laws

pub returns : goal.returns
returns c = search laws
