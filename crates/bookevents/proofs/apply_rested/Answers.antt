use Rattle.bookevents.proofs.Resting.{resting_laws}
use Rattle.bookevents.proofs.apply_rested.Goals as goal

pub set_leaves-requires : goal.set_leaves-requires
set_leaves-requires c = search resting_laws

pub add-requires : goal.add-requires
add-requires c = search resting_laws
