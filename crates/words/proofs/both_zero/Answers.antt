use Rattle.words.proofs.Laws.{laws}
use Rattle.words.proofs.both_zero.Goals as goal

pub returns-then-wide_le : goal.returns-then-wide_le
returns-then-wide_le c = search laws

pub returns-else-wide_le : goal.returns-else-wide_le
returns-else-wide_le c = search laws
