use Rattle.maps.proofs.Orders.{of_orders}
use Rattle.maps.proofs.append_code.Goals as goal

pub returns-then-is_room : goal.returns-then-is_room
returns-then-is_room c = search of_orders

pub returns-else-is_room : goal.returns-else-is_room
returns-else-is_room c = search of_orders

pub returns : goal.returns
returns c = search of_orders
