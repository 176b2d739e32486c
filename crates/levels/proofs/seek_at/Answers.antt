use Rattle.levels.proofs.Laws.{laws}
use Rattle.levels.proofs.seek_at.Goals as goal

pub returns-then-read_row-key : goal.returns-then-read_row-key
returns-then-read_row-key c = search laws
