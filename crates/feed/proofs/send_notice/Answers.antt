use Rattle.feed.proofs.Notices.{notices, notice_room, no_notice, one_notice}
use Rattle.feed.proofs.send_notice.Goals as goal

pub notice_at-a-requires : goal.notice_at-a-requires
notice_at-a-requires c = search notices

pub returns-in-None : goal.returns-in-None
returns-in-None c = no_notice c.args.m.now c.args.j _ c.requires.1 c.notice_at-a.ensures c.requires.0.state c.in-None.ensures c.args.out.now c.args.i

pub send_balance-requires : goal.send_balance-requires
send_balance-requires c =
    let r = c.in-Some.ensures in
    (c.requires.0, r.slot, notice_room c.args.m.now c.args.j _ c.requires.1 c.notice_at-a.ensures c.in-Some.s r c.args.i _ c.requires.2, r.owner, r.funded)

pub returns-in-Some : goal.returns-in-Some
returns-in-Some c = one_notice c.args.m.now c.args.j _ c.requires.1 c.notice_at-a.ensures c.in-Some.s c.in-Some.ensures c.args.out.now c.args.i c.send_balance.ensures
