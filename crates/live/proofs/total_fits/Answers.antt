use Rattle.store.specs.Layout.{cell}
use Rattle.live.proofs.Laws.{one_fits}
use Rattle.live.proofs.total_fits.Goals as goal

pub returns : goal.returns
returns c = one_fits (cell c.args.m.now) c.args.account c.args.side _ c.held_at-held.ensures c.total.result _ c.is_some.ensures _ _ c.total.ensures
