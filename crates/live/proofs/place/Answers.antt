use Rattle.live.proofs.Changes.{place_becomes}
use Rattle.live.proofs.place.Goals as goal

pub returns : goal.returns
returns c = search place_becomes
