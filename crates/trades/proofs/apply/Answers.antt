use Rattle.trades.proofs.Applying.{still_trades, still_rests}
use Rattle.trades.proofs.apply.Goals as goal

pub on_trade-requires : goal.on_trade-requires
on_trade-requires c =
    let rests = still_rests c.args.m.now _ _ c.args.n c.args.d c.args.both c.requires.3 c.settle.ensures c.mark.ensures in
    (c.mark.ensures.becomes.state, rests _ _ c.requires.1.rests, rests _ _ c.requires.2.rests, still_trades c.args.m.now _ _ c.args.n c.args.d c.args.both c.requires.3 c.settle.ensures c.mark.ensures)
