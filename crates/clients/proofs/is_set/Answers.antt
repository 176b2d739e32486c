use Rattle.clients.proofs.is_set.Goals as goal

pub returns : goal.returns
returns c = cc
