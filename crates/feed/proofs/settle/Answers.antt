use Rattle.feed.proofs.Calls.{calls}
use Rattle.feed.proofs.settle.Goals as goal

pub returns : goal.returns
returns c = search calls
