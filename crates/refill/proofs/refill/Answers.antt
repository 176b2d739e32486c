use Rattle.refill.proofs.Laws.{refill_becomes, laws}
use Rattle.refill.proofs.refill.Goals as goal

pub mark-requires : goal.mark-requires
mark-requires c = search laws

pub notice_all-requires : goal.notice_all-requires
notice_all-requires c = search laws

pub returns : goal.returns
returns c =
    refill_becomes _ _ c.requires.0 c.place_all.ensures c.mark-r.result c.mark-r.ensures c.mark.ensures c.own_all.ensures c.requires.2 c.notice_all.ensures
