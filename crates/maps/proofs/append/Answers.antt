use Rattle.maps.proofs.Orders.{of_orders}
use Rattle.maps.proofs.append.Goals as goal

pub append-requires : goal.append-requires
append-requires c = search of_orders

pub returns-then-code-eq0 : goal.returns-then-code-eq0
returns-then-code-eq0 c = search of_orders
