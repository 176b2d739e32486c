use Rattle.commands.proofs.Numbering.{take_off_needs, take_off_becomes}
use Rattle.commands.proofs.take_off.Goals as goal

pub take_off-requires : goal.take_off-requires
take_off-requires c = let p = c.requires in take_off_needs p.0 p.1

pub returns : goal.returns
returns c = let p = c.requires in take_off_becomes p.0 p.1 _ _ _ c.take_off.ensures
