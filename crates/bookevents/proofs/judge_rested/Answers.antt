use Rattle.bookevents.proofs.Resting.{resting_laws}
use Rattle.bookevents.proofs.judge_rested.Goals as goal

pub returns : goal.returns
returns c = search resting_laws
