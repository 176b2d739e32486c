use Rattle.login.proofs.Judging.{session_judged}
use Rattle.login.proofs.judge_session.Goals as goal

pub returns : goal.returns
returns c = session_judged c.args.m.now c.args.a c.requires.0 c.requires.1 _ c.session_of.ensures _ (rw c.is_some.ensures at c.then_some.ensures)
