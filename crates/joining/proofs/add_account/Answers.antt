use Rattle.joining.proofs.Laws.{added, laws}
use Rattle.joining.proofs.add_account.Goals as goal

pub returns-in_err-judge : goal.returns-in_err-judge
returns-in_err-judge c = search laws

pub enter-requires : goal.enter-requires
enter-requires c = search laws

pub returns : goal.returns
returns c = added _ _ c.requires _ c.judge.ensures c.in_ok-judge.was c.enter.ensures.0 c.enter.ensures.1
