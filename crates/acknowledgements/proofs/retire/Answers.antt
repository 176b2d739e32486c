use Rattle.acknowledgements.proofs.Refusing.{refusing}
use Rattle.acknowledgements.proofs.retire.Goals as goal

pub retire-requires : goal.retire-requires
retire-requires c = search refusing
