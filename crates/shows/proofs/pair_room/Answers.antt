use Rattle.shows.proofs.Seen.{seen_laws}
use Rattle.shows.proofs.pair_room.Goals as goal

pub returns-then-word_at : goal.returns-then-word_at
returns-then-word_at c = search seen_laws
