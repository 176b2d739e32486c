use Rattle.clients.proofs.Laws.{log_in_is}
use Rattle.clients.proofs.log_in.Goals as goal

pub returns : goal.returns
returns c =
    log_in_is c.args.m.now _ _ c.requires.2 c.set_cell.ensures c.set.ensures
