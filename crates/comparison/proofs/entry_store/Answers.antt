use mathlib.Core.Path.{sym, ◌∙◌}
use Rattle.comparison.proofs.Laws.{laws}
use Rattle.comparison.proofs.entry_store.Goals as goal

pub is_small-requires : goal.is_small-requires
is_small-requires c = sym c.is_width.ensures ∙ c.if-is_width.true

pub returns-then-store : goal.returns-then-store
returns-then-store c = search laws

pub returns-then-is_small : goal.returns-then-is_small
returns-then-is_small c = search laws

pub returns-then-is_width : goal.returns-then-is_width
returns-then-is_width c = search laws

pub returns : goal.returns
returns c = search laws
