use Rattle.reporting.proofs.Laws.{reports, nobody_listens, listens, is_deaf}
use Rattle.reporting.proofs.listener.Goals as goal

pub returns-in_err-s : goal.returns-in_err-s
returns-in_err-s c = rw c.from_residual.ensures (nobody_listens c.requires.0 c.args.account c.requires.1 _ c.session_of.ensures c.in_err-s.was)

pub is_closing-requires : goal.is_closing-requires
is_closing-requires c = search reports

pub returns-then-is_closing : goal.returns-then-is_closing
returns-then-is_closing c = is_deaf c.requires.0 c.args.account c.requires.1 _ c.session_of.ensures c.in_ok-s.s c.in_ok-s.was _ c.is_closing.ensures c.if-is_closing.true

pub returns : goal.returns
returns c = listens c.requires.0 c.args.account c.requires.1 _ c.session_of.ensures c.in_ok-s.s c.in_ok-s.was _ c.is_closing.ensures c.if-is_closing.false
