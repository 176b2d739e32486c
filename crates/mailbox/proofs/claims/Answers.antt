use Rattle.mailbox.proofs.Rows.{mailed_outside}
use Rattle.mailbox.proofs.Same.{same_mail}
use Rattle.mailbox.proofs.claims.Goals as goal

pub returns : goal.returns
returns c = record { same_mail = same_mail; outside = mailed_outside }
