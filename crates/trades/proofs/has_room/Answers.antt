use Rattle.trades.proofs.Judging.{judging}
use Rattle.trades.proofs.has_room.Goals as goal

pub returns : goal.returns
returns c = search judging
