use Rattle.holds.specs.declared.Move.TheVariants.{Leaves}
use Rattle.holds.proofs.Applying.{nothing_moved, change_needs, hold_needs, row_moved, quiet}
use Rattle.holds.proofs.set_leaves.Goals as goal

pub set_leaves-requires : goal.set_leaves-requires
set_leaves-requires c =
    change_needs _ c.requires.0 _ (Leaves c.args.leaves) _ c.requires.1 _ c.in-Some.is _ c.requires.2 c.ranges.new.fits

pub notice_hold-requires : goal.notice_hold-requires
notice_hold-requires c =
    hold_needs _ c.requires.0 _ (Leaves c.args.leaves) _ c.requires.1 _ c.in-Some.is _ c.requires.2 _ c.live_at-o.ensures c.requires.3 c.set_leaves.ensures (quiet c.set_leaves.ensures.becomes.state)

pub returns-in-Some : goal.returns-in-Some
returns-in-Some c =
    row_moved _ c.requires.0 _ (Leaves c.args.leaves) _ c.requires.1 _ c.in-Some.is _ c.requires.2 _ c.live_at-o.ensures c.requires.3 c.set_leaves.ensures (quiet c.set_leaves.ensures.becomes.state) c.notice_hold.ensures

pub returns-in_default : goal.returns-in_default
returns-in_default c = nothing_moved _ c.requires.0 _ (Leaves c.args.leaves) _ c.requires.1 c.in_default.is
