use mathlib.Core.Path.{◌∙◌}
use Rattle.pending.proofs.Commands.{read_command, read_fits}
use Rattle.pending.proofs.batch.command_at.Goals as goal

pub command_of-requires : goal.command_of-requires
command_of-requires c =
    read_fits c.args.m.now _ c.args.i c.read.ensures c.requires.2

pub returns : goal.returns
returns c =
    c.command_of.ensures ∙ read_command c.args.m.now _ c.args.i c.read.ensures
