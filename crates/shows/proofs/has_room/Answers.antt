use Rattle.shows.proofs.Seen.{seen_laws}
use Rattle.shows.proofs.has_room.Goals as goal

pub returns : goal.returns
returns c = search seen_laws
