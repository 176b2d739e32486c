use Rattle.redelivery.proofs.Orders.{orders}
use Rattle.redelivery.proofs.settle.Goals as goal

pub change-requires-2 : goal.change-requires-2
change-requires-2 c = search orders
