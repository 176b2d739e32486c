use Rattle.trades.proofs.Calling.{calling}
use Rattle.trades.proofs.tell.Goals as goal

pub returns : goal.returns
returns c = search calling
