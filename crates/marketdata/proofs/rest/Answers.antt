use Rattle.marketdata.specs.Marketdata.{words}
use Rattle.marketdata.proofs.Laws.{row_asks, join_asks, rested}
use Rattle.marketdata.proofs.rest.Goals as goal

pub row_for-i-requires : goal.row_for-i-requires
row_for-i-requires c =
    (c.requires.0, c.requires.1, row_asks c.requires.0 _ (words c.args.side c.args.price c.args.visible c.args.leaves) c.requires.2)

pub join-requires : goal.join-requires
join-requires c =
    join_asks c.requires.0 _ (words c.args.side c.args.price c.args.visible c.args.leaves) c.requires.2 _ c.row_for-i.ensures

pub returns : goal.returns
returns c =
    rested c.requires.0 _ (words c.args.side c.args.price c.args.visible c.args.leaves) c.requires.2 _ c.row_for-i.ensures c.join.ensures
