use Rattle.feed.proofs.Changes.{changes}
use Rattle.feed.proofs.change_rows.Goals as goal

pub returns-then-is_told : goal.returns-then-is_told
returns-then-is_told c = search changes

pub returns : goal.returns
returns c = search changes
