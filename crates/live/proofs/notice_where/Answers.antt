use Rattle.live.proofs.Notices.{where_needs, where_becomes}
use borrow.Author.Rules.{rules}
use Rattle.live.proofs.notice_where.Goals as goal

pub push_notices-requires : goal.push_notices-requires
push_notices-requires c = where_needs c.requires.0 c.args.account _ c.args.noticed c.choose.ensures c.requires.1

pub returns : goal.returns
returns c = search (where_becomes, rules)
