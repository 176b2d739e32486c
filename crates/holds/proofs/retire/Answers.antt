use Rattle.words.proofs.Int.{int_zero}
use Rattle.holds.specs.declared.Move.TheVariants.{Retire}
use Rattle.holds.proofs.Applying.{nothing_moved, hold_needs, row_moved, quiet}
use Rattle.holds.proofs.retire.Goals as goal

pub notice_hold-requires : goal.notice_hold-requires
notice_hold-requires c =
    hold_needs _ c.requires.0 _ Retire _ c.requires.1 _ c.in-Some.is 0 (λ o e. int_zero) _ c.live_at-o.ensures c.requires.2 c.retire.ensures (quiet c.retire.ensures.becomes.state)

pub returns-in-Some : goal.returns-in-Some
returns-in-Some c =
    row_moved _ c.requires.0 _ Retire _ c.requires.1 _ c.in-Some.is 0 (λ o e. int_zero) _ c.live_at-o.ensures c.requires.2 c.retire.ensures (quiet c.retire.ensures.becomes.state) c.notice_hold.ensures

pub returns-in_default : goal.returns-in_default
returns-in_default c = nothing_moved _ c.requires.0 _ Retire _ c.requires.1 c.in_default.is
