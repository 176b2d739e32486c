use Rattle.levels.proofs.find.Goals as goal

pub returns-then-is_at : goal.returns-then-is_at
returns-then-is_at c = rw c.if-is_at.true at c.is_at.ensures

pub returns : goal.returns
returns c = rw c.if-is_at.false at c.is_at.ensures
