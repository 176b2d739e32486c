use Rattle.trades.proofs.Applying.{taker_room, maker_room, maker_hold, maker_lives}
use Rattle.trades.proofs.settle.Goals as goal

pub fill-requires : goal.fill-requires
fill-requires c =
    (c.requires.0, c.requires.1, c.requires.3.taker_holds, taker_room _ c.args.d _ _ c.requires.3)

pub fill-requires-2 : goal.fill-requires-2
fill-requires-2 c =
    let b = c.fill.ensures in
    (b.becomes.state, maker_lives _ c.args.d _ _ c.requires.3 b _ c.requires.2, maker_hold _ c.args.d _ _ c.requires.3 b, maker_room _ c.args.d _ _ c.requires.3 b)
