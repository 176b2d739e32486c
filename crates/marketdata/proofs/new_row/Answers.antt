use Rattle.marketdata.proofs.Places.{open_asks, opens}
use Rattle.marketdata.proofs.new_row.Goals as goal

pub open_row-requires : goal.open_row-requires
open_row-requires c =
    open_asks c.requires.0 _ c.requires.1 c.requires.2 _ c.requires.3 _ c.tombstone-d.ensures _ c.new_place-p.ensures

pub returns : goal.returns
returns c =
    opens c.requires.0 _ c.requires.1 c.requires.2 _ c.requires.3 _ c.tombstone-d.ensures _ c.new_place-p.ensures c.open_row.ensures
