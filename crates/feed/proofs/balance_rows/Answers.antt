use native.Mathlib.Omega.{arith}
use Rattle.feed.proofs.Notices.{notices, rows_none, rows_one}
use Rattle.feed.proofs.balance_rows.Goals as goal

pub notice_at-a-requires : goal.notice_at-a-requires
notice_at-a-requires c = search notices

pub returns-in-None : goal.returns-in-None
returns-in-None c = (rows_none c.args.m.now c.args.j _ c.requires.1 c.notice_at-a.ensures c.in-None.ensures, omega arith)

pub returns-in-Some : goal.returns-in-Some
returns-in-Some c = (rows_one c.args.m.now c.args.j _ c.requires.1 c.notice_at-a.ensures _ c.in-Some.ensures, omega arith)
