use Rattle.marketdata.proofs.Places.{live_opens}
use Rattle.marketdata.proofs.row_for.Goals as goal

pub returns-in-Some : goal.returns-in-Some
returns-in-Some c =
    live_opens _ _ _ c.requires.0 c.requires.2 _ c.requires.1 c.in-Some.is
