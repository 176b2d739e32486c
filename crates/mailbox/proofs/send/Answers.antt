use Rattle.mailbox.proofs.send.Goals as goal

pub returns : goal.returns
returns c = rw (← c.row_of-row.ensures) c.put.ensures
