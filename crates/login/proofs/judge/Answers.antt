use Rattle.login.proofs.Entered.{laws}
use Rattle.login.proofs.judge.Goals as goal

pub returns-then-version-ne-VERSION : goal.returns-then-version-ne-VERSION
returns-then-version-ne-VERSION c = search laws

pub judge_session-requires : goal.judge_session-requires
judge_session-requires c = search laws

pub returns-then-is_known : goal.returns-then-is_known
returns-then-is_known c = search laws

pub returns : goal.returns
returns c = search laws
