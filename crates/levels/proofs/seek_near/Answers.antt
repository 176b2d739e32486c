use Rattle.levels.proofs.seek_near.Goals as goal

pub returns-then-is_first : goal.returns-then-is_first
returns-then-is_first c = rw c.if-is_first.true at c.is_first.ensures
