use Rattle.live.proofs.Changes.{place_seeds}
use Rattle.live.proofs.seed.Goals as goal

pub returns : goal.returns
returns c = search place_seeds
