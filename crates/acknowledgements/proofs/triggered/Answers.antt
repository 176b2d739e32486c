use Rattle.acknowledgements.proofs.Stills.{triggered_still}
use Rattle.acknowledgements.proofs.triggered.Goals as goal

pub returns : goal.returns
returns c =
    c.quiet.ensures _ (triggered_still _)
