use Rattle.maps.proofs.Orders.{of_orders}
use Rattle.maps.proofs.is_room.Goals as goal

pub returns-then-live-lt-ORDER_ROOM : goal.returns-then-live-lt-ORDER_ROOM
returns-then-live-lt-ORDER_ROOM c = search of_orders

pub returns : goal.returns
returns c = search of_orders
