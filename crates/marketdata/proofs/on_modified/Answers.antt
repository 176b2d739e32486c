use Rattle.words.specs.Words.{int}
use Rattle.gateway.specs.Depth as D
use Rattle.marketdata.proofs.Events.{read_asks, found_at, found_room, found_becomes, nothing_becomes}
use Rattle.marketdata.proofs.on_modified.Goals as goal

pub resting_at-o-requires : goal.resting_at-o-requires
resting_at-o-requires c =
    read_asks _ _ _ c.requires.0 _ c.requires.1 c.in-Some.is

pub modified-requires : goal.modified-requires
modified-requires c =
    (c.requires.0, found_at _ _ _ c.requires.0 _ c.requires.1 c.in-Some.is _ c.resting_at-o.ensures, found_room _ _ _ c.requires.0 _ c.requires.1 c.in-Some.is (D.modified (int c.args.price) c.args.leaves) c.requires.2)

pub returns-in-Some : goal.returns-in-Some
returns-in-Some c =
    found_becomes _ _ _ c.requires.0 _ c.requires.1 c.in-Some.is (D.modified (int c.args.price) c.args.leaves) c.modified.ensures

pub returns-in_default : goal.returns-in_default
returns-in_default c =
    nothing_becomes _ _ c.requires.0 _ c.requires.1 c.in_default.is (D.modified (int c.args.price) c.args.leaves)
