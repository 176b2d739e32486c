use Rattle.saved.proofs.Laws.{laws}
use Rattle.saved.proofs.fields.wallet_row.Goals as goal

pub returns : goal.returns
returns c = search laws
