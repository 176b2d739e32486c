use mathlib.Core.Path.{sym, ◌∙◌}
use Rattle.exchange.proofs.Laws.{laws}
use Rattle.exchange.proofs.receive.Goals as goal

pub heed-requires : goal.heed-requires
heed-requires c =
    (c.requires, sym c.is_present.ensures ∙ c.if-is_present.true)

pub returns : goal.returns
returns c = search laws
