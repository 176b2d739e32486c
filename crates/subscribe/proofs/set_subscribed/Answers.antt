use Rattle.subscribe.proofs.Snapshot.{snapshots}
use Rattle.subscribe.proofs.set_subscribed.Goals as goal

pub returns : goal.returns
returns c = search snapshots
