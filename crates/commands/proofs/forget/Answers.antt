use Rattle.commands.proofs.Departures.{departures}
use Rattle.commands.proofs.forget.Goals as goal

pub returns-then-s-lt-SESSION_SLOTS : goal.returns-then-s-lt-SESSION_SLOTS
returns-then-s-lt-SESSION_SLOTS c = search departures

pub returns-else-s-lt-SESSION_SLOTS : goal.returns-else-s-lt-SESSION_SLOTS
returns-else-s-lt-SESSION_SLOTS c = search departures
