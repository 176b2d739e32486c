use Rattle.orders.proofs.live_at.Goals as goal

pub returns : goal.returns
returns c = cc
