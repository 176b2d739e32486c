use Rattle.marketdata.proofs.Laws.{added_asks, add_done}
use Rattle.marketdata.proofs.add.Goals as goal

pub remember-requires : goal.remember-requires
remember-requires c =
    added_asks c.requires.0 _ c.args.o c.requires.2 c.rest.ensures

pub returns : goal.returns
returns c =
    add_done c.requires.0 _ c.args.o c.requires.2 c.rest.ensures c.remember.ensures.becomes
