use Rattle.clients.proofs.bucket_at.Goals as goal

pub returns : goal.returns
returns c = cc
