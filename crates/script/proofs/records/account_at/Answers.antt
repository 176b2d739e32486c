use Rattle.script.proofs.Rows.{rows_laws}
use Rattle.script.proofs.records.account_at.Goals as goal

pub account_row-row-requires : goal.account_row-row-requires
account_row-row-requires c = search rows_laws

pub account-requires : goal.account-requires
account-requires c = search rows_laws

pub returns : goal.returns
returns c = search rows_laws
