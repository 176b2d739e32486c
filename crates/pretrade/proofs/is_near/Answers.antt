use Rattle.pretrade.proofs.Testing.{testing}
use Rattle.pretrade.proofs.is_near.Goals as goal

pub returns-then-collar-eq0 : goal.returns-then-collar-eq0
returns-then-collar-eq0 c = search testing

pub returns-then-marked-eq0 : goal.returns-then-marked-eq0
returns-then-marked-eq0 c = search testing

pub returns : goal.returns
returns c = search testing
