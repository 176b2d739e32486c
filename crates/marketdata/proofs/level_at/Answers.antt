use Rattle.marketdata.proofs.AtLevel.{level_laws}
use Rattle.marketdata.proofs.level_at.Goals as goal

pub is_at-requires : goal.is_at-requires
is_at-requires c = search level_laws

pub read_row-requires : goal.read_row-requires
read_row-requires c = search level_laws

pub returns-then-is_at : goal.returns-then-is_at
returns-then-is_at c = search level_laws

pub returns : goal.returns
returns c = search level_laws
