use Rattle.holds.proofs.Applying.{change_needs, applying}
use borrow.Author.Rules.{rules}
use Rattle.holds.proofs.change.Goals as goal

pub change_row-requires : goal.change_row-requires
change_row-requires c =
    change_needs _ c.requires.0 _ c.args.x _ c.requires.1 _ c.in-Some.is _ c.after-new.ensures (search rules)

pub returns-in_default : goal.returns-in_default
returns-in_default c = search applying
