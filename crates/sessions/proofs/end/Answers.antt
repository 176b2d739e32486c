use mathlib.Core.Path.{sym, ◌∙◌}
use Rattle.sessions.proofs.Laws.{laws}
use Rattle.sessions.proofs.end.Goals as goal

pub end_present-requires : goal.end_present-requires
end_present-requires c =
    (c.requires, sym c.is_present.ensures ∙ c.if-is_present.true)

pub returns : goal.returns
returns c = search laws
