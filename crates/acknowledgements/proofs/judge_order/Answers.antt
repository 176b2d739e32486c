use Rattle.acknowledgements.proofs.Refusing.{refusing}
use Rattle.acknowledgements.proofs.judge_order.Goals as goal

pub returns : goal.returns
returns c = search refusing
