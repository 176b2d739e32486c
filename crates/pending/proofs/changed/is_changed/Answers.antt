use Rattle.pending.proofs.Chain.{top_at}
use borrow.Author.Rules.{rules}
use Rattle.pending.proofs.changed.is_changed.Goals as goal

pub is_in-requires : goal.is_in-requires
is_in-requires c = (search rules, search rules, top_at _ _ _ _ c.slot.ensures.0 c.top-t.ensures)
