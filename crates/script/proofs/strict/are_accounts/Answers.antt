use Rattle.script.proofs.Rows.{rows_laws}
use Rattle.script.proofs.strict.are_accounts.Goals as goal

pub all_accounts-requires : goal.all_accounts-requires
all_accounts-requires c = search rows_laws

pub returns-then-list-eq0 : goal.returns-then-list-eq0
returns-then-list-eq0 c = search rows_laws

pub returns : goal.returns
returns c = search rows_laws
