use Rattle.start.proofs.Begun.{start_becomes, start_rows}
use Rattle.start.proofs.start.Goals as goal

pub returns : goal.returns
returns c =
    (start_becomes _ _ _ _ c.requires.1 c.clear.ensures c.fill.ensures c.fill-2.ensures c.fill-3.ensures, start_rows _ _ _ _ c.clear.ensures c.fill.ensures c.fill-2.ensures c.fill-3.ensures)
