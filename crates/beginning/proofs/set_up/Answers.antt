use Rattle.roster.proofs.Tables.{gathered}
use Rattle.beginning.proofs.set_up.Goals as goal

-- each account of the roster stands at its number
pub set_up-requires : goal.set_up-requires
set_up-requires c = (c.requires, (gathered _ _ _ c.gather-r.ensures).numbered)

-- what begins answers for every list of accounts that the roster is gathered from
pub returns : goal.returns
returns c = c.set_up.ensures.starts _ (gathered _ _ _ c.gather-r.ensures)
