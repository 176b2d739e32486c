use Rattle.pending.proofs.batch.push_command.Goals as goal

pub returns : goal.returns
returns c = (rw (← c.row_of-row.ensures.0) c.push_row.ensures, c.row_of-row.ensures.1)
