use Rattle.marketdata.proofs.Laws.{laws}
use Rattle.marketdata.proofs.stays.Goals as goal

pub returns-then-leaves-eq0 : goal.returns-then-leaves-eq0
returns-then-leaves-eq0 c = search laws

pub returns-then-price-o : goal.returns-then-price-o
returns-then-price-o c = search laws

pub returns : goal.returns
returns c = search laws
