use Rattle.commands.proofs.Numbering.{queue_needs, queue_becomes}
use Rattle.commands.proofs.queue.Goals as goal

pub push_command-requires : goal.push_command-requires
push_command-requires c = let p = c.requires in queue_needs c.args.m.now c.args.command p.0 p.1 p.2

pub returns : goal.returns
returns c = let p = c.requires in let q = c.push_command.ensures in queue_becomes _ p.0 p.1 p.2 q.0 q.1
