use Rattle.levels.proofs.listed.side_of.Goals as goal

pub returns : goal.returns
returns c = rw c.index_of.ensures.0
