use Rattle.edge.proofs.Laws.{laws}
use Rattle.edge.proofs.rowanchess_replay_event.Goals as goal

pub event-e-requires : goal.event-e-requires
event-e-requires c = search laws

pub replay_event-requires : goal.replay_event-requires
replay_event-requires c = search laws

pub returns-then-is_whole : goal.returns-then-is_whole
returns-then-is_whole c = rw c.code_of.ensures (search laws)

pub returns : goal.returns
returns c = search laws
