use Rattle.holds.specs.declared.Move.TheVariants.{Reprice}
use Rattle.holds.proofs.Applying.{nothing_moved, change_needs, hold_needs, row_moved, quiet}
use Rattle.holds.proofs.reprice.Goals as goal

pub reprice-requires : goal.reprice-requires
reprice-requires c =
    change_needs _ c.requires.0 _ (Reprice c.args.price c.args.leaves) _ c.requires.1 _ c.in-Some.is _ c.requires.2 c.ranges.new.fits

pub notice_hold-requires : goal.notice_hold-requires
notice_hold-requires c =
    hold_needs _ c.requires.0 _ (Reprice c.args.price c.args.leaves) _ c.requires.1 _ c.in-Some.is _ c.requires.2 _ c.live_at-o.ensures c.requires.3 c.reprice.ensures (quiet c.reprice.ensures.becomes.state)

pub returns-in-Some : goal.returns-in-Some
returns-in-Some c =
    row_moved _ c.requires.0 _ (Reprice c.args.price c.args.leaves) _ c.requires.1 _ c.in-Some.is _ c.requires.2 _ c.live_at-o.ensures c.requires.3 c.reprice.ensures (quiet c.reprice.ensures.becomes.state) c.notice_hold.ensures

pub returns-in_default : goal.returns-in_default
returns-in_default c = nothing_moved _ c.requires.0 _ (Reprice c.args.price c.args.leaves) _ c.requires.1 c.in_default.is
