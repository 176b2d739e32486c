use Rattle.words.proofs.Int.{read}
use Rattle.acknowledgements.proofs.Stills.{stop_still}
use Rattle.acknowledgements.proofs.stop_placed.Goals as goal

pub returns : goal.returns
returns c =
    c.quiet.ensures _ (stop_still _ _ _ _ _ _ (read {x = c.args.trigger} c.ranges.trigger.sfits))
