use Rattle.feed.proofs.Changes.{changes}
use Rattle.feed.proofs.send_level.Goals as goal

pub level_at-k-requires : goal.level_at-k-requires
level_at-k-requires c = search changes

pub returns : goal.returns
returns c = search changes
