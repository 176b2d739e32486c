use Rattle.pretrade.proofs.Existing.{row_needs}
use Rattle.pretrade.proofs.Testing.{testing}
use Rattle.pretrade.proofs.few_open.Goals as goal

pub open_orders-requires : goal.open_orders-requires
open_orders-requires c = row_needs c.requires

pub max_open-requires : goal.max_open-requires
max_open-requires c = row_needs c.requires

pub returns : goal.returns
returns c = search testing
