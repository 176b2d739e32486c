use Rattle.maps.proofs.Entering.{entering}
use Rattle.maps.proofs.tables_orders_remove.Goals as goal

pub remove-requires : goal.remove-requires
remove-requires c = search entering

pub returns-then-is_whole : goal.returns-then-is_whole
returns-then-is_whole c = search entering

pub returns : goal.returns
returns c = search entering
