use Rattle.clients.proofs.Laws.{leave_below, forget_is}
use Rattle.clients.proofs.forget.Goals as goal

pub leave-requires : goal.leave-requires
leave-requires c =
    (c.requires.0, leave_below c.args.m.now _ _ _ c.requires.2 c.requires.1 c.session_at.ensures c.account_of-a.ensures)

pub returns : goal.returns
returns c =
    forget_is c.args.m.now _ _ _ c.session_at.ensures c.account_of-a.ensures c.leave.ensures c.set_cell.ensures
