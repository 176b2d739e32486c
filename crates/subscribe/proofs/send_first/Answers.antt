use Rattle.subscribe.proofs.Snapshot.{snapshots}
use Rattle.subscribe.proofs.send_first.Goals as goal

pub returns : goal.returns
returns c = search snapshots
