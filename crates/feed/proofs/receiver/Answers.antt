use Rattle.feed.proofs.Notices.{notices}
use Rattle.feed.proofs.receiver.Goals as goal

pub returns : goal.returns
returns c = search notices
