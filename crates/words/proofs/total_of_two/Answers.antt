use mathlib.Core.Path.{◌∙◌}
use Rattle.words.proofs.Laws.{two_moved}
use Rattle.words.proofs.total_of_two.Goals as goal

pub returns : goal.returns
returns c = c.amount_at.ensures ∙ two_moved _ _ _ _ _ _ _ _ _ _ _ c.raised-t.ensures c.raised-o.ensures c.raised-n.ensures c.raised-o2.ensures c.raised-n2.ensures c.moved_twice.ensures
