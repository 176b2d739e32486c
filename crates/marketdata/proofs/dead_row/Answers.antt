use Rattle.marketdata.proofs.Places.{dead_opens, missing_is}
use Rattle.marketdata.proofs.dead_row.Goals as goal

pub returns-then-bears : goal.returns-then-bears
returns-then-bears c =
    dead_opens _ _ _ c.requires.0 c.requires.1 _ c.bears.ensures c.if-bears.true

pub new_row-requires : goal.new_row-requires
new_row-requires c =
    (c.requires.0, c.requires.1, missing_is c.requires.0 _ _ c.place_of-i.ensures _ c.bears.ensures c.if-bears.false, c.place_of-i.ensures)
