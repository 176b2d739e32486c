use Rattle.clients.proofs.Laws.{set_cell_is}
use Rattle.clients.proofs.set_cell.Goals as goal

pub returns : goal.returns
returns c =
    set_cell_is _ _ _ _ c.requires.0 c.requires.1 c.set.ensures
