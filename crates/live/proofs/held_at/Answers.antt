use Rattle.store.specs.Layout.{cell}
use Rattle.live.proofs.Laws.{held_at_is}
use Rattle.live.proofs.held_at.Goals as goal

pub returns : goal.returns
returns c = held_at_is (cell c.args.m.now) c.args.account c.args.side _ _ c.held_cell.ensures.0 c.get.ensures
