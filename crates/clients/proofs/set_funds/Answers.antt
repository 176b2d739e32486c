use Rattle.clients.proofs.Laws.{no_funds_is, no_funds_fit, some_funds_is, some_funds_fit}
use native.Mathlib.Omega.{arith}
use Rattle.clients.proofs.set_funds.Goals as goal

pub returns-in-None : goal.returns-in-None
returns-in-None c = (search (no_funds_is, arith), search (no_funds_fit, arith))

pub returns-in-Some : goal.returns-in-Some
returns-in-Some c = (search (some_funds_is, arith), search (some_funds_fit, arith))
