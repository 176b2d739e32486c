use Rattle.saved.proofs.Laws.{laws}
use Rattle.saved.proofs.order_section.Goals as goal

pub start-from-requires : goal.start-from-requires
start-from-requires c = search laws

pub returns-then-is_whole : goal.returns-then-is_whole
returns-then-is_whole c = search laws

pub returns : goal.returns
returns c = search laws
