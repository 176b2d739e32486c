use Rattle.pretrade.proofs.Existing.{row_needs}
use Rattle.pretrade.proofs.Testing.{testing}
use Rattle.pretrade.proofs.hold_fits.Goals as goal

pub is_funded-requires : goal.is_funded-requires
is_funded-requires c = row_needs c.requires

pub total_fits-requires : goal.total_fits-requires
total_fits-requires c = row_needs c.requires

pub returns-else-not-is_funded : goal.returns-else-not-is_funded
returns-else-not-is_funded c = search testing

pub returns-then-not-is_funded : goal.returns-then-not-is_funded
returns-then-not-is_funded c = search testing
