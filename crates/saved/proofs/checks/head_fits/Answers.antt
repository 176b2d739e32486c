use Rattle.saved.proofs.Laws.{laws}
use Rattle.saved.proofs.checks.head_fits.Goals as goal

pub get_u8-flag-requires : goal.get_u8-flag-requires
get_u8-flag-requires c = search laws

pub get_u64-price-requires : goal.get_u64-price-requires
get_u64-price-requires c = search laws

pub returns : goal.returns
returns c = search laws
