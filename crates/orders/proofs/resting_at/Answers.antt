use Rattle.orders.proofs.resting_at.Goals as goal

pub returns : goal.returns
returns c = cc
