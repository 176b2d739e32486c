use Rattle.maps.proofs.Entering.{entering}
use Rattle.maps.proofs.tables_orders_change.Goals as goal

pub change-requires : goal.change-requires
change-requires c = search entering

pub returns-then-is_whole : goal.returns-then-is_whole
returns-then-is_whole c = search entering

pub returns : goal.returns
returns c = search entering
