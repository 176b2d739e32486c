use Rattle.store.specs.Layout.{cell}
use Rattle.live.proofs.Laws.{both_fit}
use Rattle.live.proofs.two_fit.Goals as goal

pub returns : goal.returns
returns c = both_fit (cell c.args.m.now) c.args.account c.args.side _ c.held_at-held.ensures c.total_of_two.result _ c.is_some.ensures _ _ _ _ c.total_of_two.ensures
