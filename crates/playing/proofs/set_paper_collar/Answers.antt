use Rattle.playing.proofs.Laws.{laws}
use Rattle.playing.proofs.set_paper_collar.Goals as goal

pub returns : goal.returns
returns c = search laws
