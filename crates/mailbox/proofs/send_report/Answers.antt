use Rattle.mailbox.proofs.send_report.Goals as goal

pub returns : goal.returns
returns c = rw (← c.report-row.ensures) c.put.ensures
