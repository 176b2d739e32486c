use Rattle.clients.proofs.wallet_at.Goals as goal

pub returns : goal.returns
returns c = cc
