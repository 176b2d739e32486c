use Rattle.bookevents.proofs.Changing.{changing}
use Rattle.bookevents.proofs.apply_cancelled.Goals as goal

pub retire-requires : goal.retire-requires
retire-requires c = search changing

pub on_cancelled-requires : goal.on_cancelled-requires
on_cancelled-requires c = search changing
