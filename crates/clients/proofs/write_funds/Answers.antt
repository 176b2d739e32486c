use Rattle.clients.proofs.Laws.{write_funds_is}
use Rattle.clients.proofs.write_funds.Goals as goal

pub returns : goal.returns
returns c =
    write_funds_is _ _ _ c.requires.0 c.requires.1 c.set.ensures c.set-2.ensures c.set-3.ensures c.set_money.ensures
