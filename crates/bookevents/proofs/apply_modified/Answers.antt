use Rattle.bookevents.proofs.Changing.{changing}
use Rattle.bookevents.proofs.apply_modified.Goals as goal

pub reprice-requires : goal.reprice-requires
reprice-requires c = search changing

pub on_modified-requires : goal.on_modified-requires
on_modified-requires c = search changing
