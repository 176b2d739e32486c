use Rattle.checkpoint.proofs.Calls.{laws}
use Rattle.checkpoint.proofs.put_order_section.Goals as goal

pub put_orders-requires : goal.put_orders-requires
put_orders-requires c = search laws

pub returns : goal.returns
returns c = search laws
