use Rattle.marketdata.specs.Marketdata.{replenished}
use Rattle.marketdata.proofs.Events.{read_asks, found_at, found_judged, found_becomes, nothing_becomes}
use Rattle.marketdata.proofs.on_replenished.Goals as goal

pub resting_at-o-requires : goal.resting_at-o-requires
resting_at-o-requires c =
    read_asks _ _ _ c.requires.0 _ c.requires.1 c.in-Some.is

pub replenished-requires : goal.replenished-requires
replenished-requires c =
    (c.requires.0, found_at _ _ _ c.requires.0 _ c.requires.1 c.in-Some.is _ c.resting_at-o.ensures, found_judged _ _ _ c.requires.0 _ c.requires.1 c.in-Some.is (replenished c.args.visible) c.requires.2)

pub returns-in-Some : goal.returns-in-Some
returns-in-Some c =
    found_becomes _ _ _ c.requires.0 _ c.requires.1 c.in-Some.is (replenished c.args.visible) c.replenished.ensures

pub returns-in_default : goal.returns-in_default
returns-in_default c =
    nothing_becomes _ _ c.requires.0 _ c.requires.1 c.in_default.is (replenished c.args.visible)
