use Rattle.clients.proofs.Laws.{in_slot, past_slots}
use Rattle.clients.proofs.find_session.Goals as goal

pub returns-then-s-lt-SESSION_SLOTS : goal.returns-then-s-lt-SESSION_SLOTS
returns-then-s-lt-SESSION_SLOTS c = in_slot _ _ c.session_at.result c.if-s-lt-SESSION_SLOTS.true c.session_at.ensures

pub returns-else-s-lt-SESSION_SLOTS : goal.returns-else-s-lt-SESSION_SLOTS
returns-else-s-lt-SESSION_SLOTS c = past_slots _ _ c.nobody.result c.if-s-lt-SESSION_SLOTS.false c.nobody.ensures
