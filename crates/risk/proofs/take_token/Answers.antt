use Rattle.risk.proofs.Laws.{laws}
use Rattle.risk.proofs.take_token.Goals as goal

pub less-requires : goal.less-requires
less-requires c = search laws

pub returns-then-green : goal.returns-then-green
returns-then-green c = search laws

pub returns-else-green : goal.returns-else-green
returns-else-green c = search laws
