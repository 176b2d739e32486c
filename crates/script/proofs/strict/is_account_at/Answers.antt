use Rattle.script.proofs.Rows.{rows_laws}
use Rattle.script.proofs.strict.is_account_at.Goals as goal

pub account_row-row-requires : goal.account_row-row-requires
account_row-row-requires c = search rows_laws

pub is_account-requires : goal.is_account-requires
is_account-requires c = search rows_laws

pub returns : goal.returns
returns c = search rows_laws
