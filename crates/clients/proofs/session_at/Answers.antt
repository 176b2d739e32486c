use Rattle.clients.proofs.session_at.Goals as goal

pub returns : goal.returns
returns c = cc
