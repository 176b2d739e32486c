use mathlib.Core.Path.{sym, ◌∙◌}
use Rattle.sessions.proofs.Laws.{laws}
use Rattle.sessions.proofs.connect.Goals as goal

pub seat-requires : goal.seat-requires
seat-requires c = (c.requires.state, sym c.is_free.ensures ∙ c.if-is_free.true)

pub returns-then-is_free : goal.returns-then-is_free
returns-then-is_free c = search laws

pub returns : goal.returns
returns c = search laws
