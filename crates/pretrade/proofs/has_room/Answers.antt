use Rattle.pretrade.proofs.Testing.{testing}
use Rattle.pretrade.proofs.has_room.Goals as goal

pub can_number-requires : goal.can_number-requires
can_number-requires c = search testing

pub has_place-requires : goal.has_place-requires
has_place-requires c = search testing
