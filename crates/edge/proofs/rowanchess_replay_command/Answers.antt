use Rattle.edge.proofs.Laws.{laws}
use Rattle.edge.proofs.rowanchess_replay_command.Goals as goal

pub command-k-requires : goal.command-k-requires
command-k-requires c = search laws

pub replay_command-requires : goal.replay_command-requires
replay_command-requires c = search laws

pub returns-then-is_whole : goal.returns-then-is_whole
returns-then-is_whole c = rw c.code_of.ensures (search laws)

pub returns : goal.returns
returns c = search laws
