use Rattle.live.proofs.Notices.{hold_where, same_needs, same_becomes}
use Rattle.live.proofs.notice_hold.Goals as goal

pub notice_where-requires : goal.notice_where-requires
notice_where-requires c =
    (c.requires.0, same_needs c.args.m.now (hold_where c.args.m.now _ _ c.is_funded-funded.ensures c.args.old c.args.new c.ranges.old.fits c.ranges.new.fits) c.requires.2)

pub returns : goal.returns
returns c =
    same_becomes c.args.m.now (hold_where c.args.m.now _ _ c.is_funded-funded.ensures c.args.old c.args.new c.ranges.old.fits c.ranges.new.fits) c.notice_where.ensures
