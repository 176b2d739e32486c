use Rattle.pretrade.proofs.Testing.{testing}
use Rattle.pretrade.proofs.judge_limit.Goals as goal

pub returns : goal.returns
returns c = search testing
