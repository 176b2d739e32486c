use Rattle.replay.proofs.Saying.{saying}
use Rattle.replay.proofs.terms_of.Goals as goal

pub returns-in-Limit : goal.returns-in-Limit
returns-in-Limit c = search saying

pub returns-in-Market : goal.returns-in-Market
returns-in-Market c = search saying

pub returns-in-Cancel : goal.returns-in-Cancel
returns-in-Cancel c = search saying

pub returns-in-Modify : goal.returns-in-Modify
returns-in-Modify c = search saying

pub returns-in-Stop : goal.returns-in-Stop
returns-in-Stop c = search saying

pub returns-in-CancelAll : goal.returns-in-CancelAll
returns-in-CancelAll c = search saying

pub returns-in-SetPhase : goal.returns-in-SetPhase
returns-in-SetPhase c = search saying
