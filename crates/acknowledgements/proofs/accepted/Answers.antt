use Rattle.acknowledgements.proofs.Stills.{accepted_still}
use Rattle.acknowledgements.proofs.accepted.Goals as goal

pub returns : goal.returns
returns c =
    c.quiet.ensures _ (accepted_still _)
