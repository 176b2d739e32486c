use Rattle.saved.proofs.Laws.{laws}
use Rattle.saved.proofs.last.Goals as goal

pub get_u64-requires : goal.get_u64-requires
get_u64-requires c = search laws

pub returns : goal.returns
returns c = search laws
