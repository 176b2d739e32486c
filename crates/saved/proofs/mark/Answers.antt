use Rattle.saved.proofs.Laws.{laws}
use Rattle.saved.proofs.mark.Goals as goal

pub get_u8-requires : goal.get_u8-requires
get_u8-requires c = search laws

pub get_u64-price-requires : goal.get_u64-price-requires
get_u64-price-requires c = search laws

pub returns : goal.returns
returns c = search laws
