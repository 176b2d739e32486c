use Rattle.finish.proofs.Laws.{finish_done, laws}
use Rattle.finish.proofs.finish.Goals as goal

pub returns-in_err-judge : goal.returns-in_err-judge
returns-in_err-judge c = search laws

pub returns : goal.returns
returns c = finish_done _ _ c.requires _ c.judge.ensures c.in_ok-judge.was c.apply.ensures
