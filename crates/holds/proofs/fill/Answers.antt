use Rattle.holds.specs.declared.Move.TheVariants.{Fill}
use Rattle.holds.proofs.Applying.{nothing_moved, change_needs, money_needs, hold_needs, row_moved}
use Rattle.holds.proofs.fill.Goals as goal

pub traded-requires : goal.traded-requires
traded-requires c =
    change_needs _ c.requires.0 _ (Fill c.args.price c.args.qty c.args.leaves) _ c.requires.1 _ c.in-Some.is _ c.requires.2 c.ranges.new.fits

pub notice-requires : goal.notice-requires
notice-requires c =
    money_needs _ c.requires.0 _ (Fill c.args.price c.args.qty c.args.leaves) _ c.requires.1 _ c.in-Some.is _ c.requires.2 _ c.live_at-o.ensures c.requires.3 c.traded.ensures

pub notice_hold-requires : goal.notice_hold-requires
notice_hold-requires c =
    hold_needs _ c.requires.0 _ (Fill c.args.price c.args.qty c.args.leaves) _ c.requires.1 _ c.in-Some.is _ c.requires.2 _ c.live_at-o.ensures c.requires.3 c.traded.ensures c.notice.ensures

pub returns-in-Some : goal.returns-in-Some
returns-in-Some c =
    row_moved _ c.requires.0 _ (Fill c.args.price c.args.qty c.args.leaves) _ c.requires.1 _ c.in-Some.is _ c.requires.2 _ c.live_at-o.ensures c.requires.3 c.traded.ensures c.notice.ensures c.notice_hold.ensures

pub returns-in_default : goal.returns-in_default
returns-in_default c = nothing_moved _ c.requires.0 _ (Fill c.args.price c.args.qty c.args.leaves) _ c.requires.1 c.in_default.is
