use Rattle.refill.proofs.Laws.{laws}
use Rattle.refill.proofs.notice_at.Goals as goal

pub notice_hold-requires : goal.notice_hold-requires
notice_hold-requires c = search laws

pub returns : goal.returns
returns c = search laws
