use Rattle.sessions.proofs.Laws.{laws}
use Rattle.sessions.proofs.is_free.Goals as goal

pub returns-then-s-lt-SESSION_SLOTS : goal.returns-then-s-lt-SESSION_SLOTS
returns-then-s-lt-SESSION_SLOTS c = search laws
