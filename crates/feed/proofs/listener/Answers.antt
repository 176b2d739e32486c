use Rattle.feed.proofs.Notices.{its_session, not_told, no_session}
use Rattle.feed.proofs.listener.Goals as goal

pub returns-in_err-s : goal.returns-in_err-s
returns-in_err-s c = rw c.from_residual.ensures (no_session c.args.m.now c.args.a c.requires.0 _ c.requires.1 c.session_of.ensures c.in_err-s.was)

pub returns-then-hears : goal.returns-then-hears
returns-then-hears c = its_session c.args.m.now c.args.a c.requires.0 _ c.requires.1 c.session_of.ensures c.in_ok-s.s c.in_ok-s.was _ c.hears.ensures c.if-hears.true

pub returns : goal.returns
returns c = not_told c.args.m.now c.args.a c.requires.0 _ c.requires.1 c.session_of.ensures c.in_ok-s.s c.in_ok-s.was _ c.hears.ensures c.if-hears.false
