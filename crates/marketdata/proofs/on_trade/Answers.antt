use Rattle.marketdata.proofs.Events.{maker_can, taker_asks, trade_done}
use Rattle.marketdata.proofs.on_trade.Goals as goal

pub on_filled-requires : goal.on_filled-requires
on_filled-requires c =
    (c.requires.0, c.requires.2, maker_can _ _ _ _ _ c.requires.3)

pub on_filled-requires-2 : goal.on_filled-requires-2
on_filled-requires-2 c =
    taker_asks _ _ _ _ _ _ c.requires.3 c.on_filled.ensures _ c.requires.1

pub returns : goal.returns
returns c =
    trade_done _ _ _ _ _ _ c.requires.3 c.on_filled.ensures c.on_filled-2.ensures
