use Rattle.roster.proofs.Tables.{gathered}
use Rattle.beginning.proofs.restore.Goals as goal

-- each account of the roster stands at its number
pub restore-requires : goal.restore-requires
restore-requires c = (c.requires, (gathered _ _ _ c.gather-r.ensures).numbered)

-- what begins answers for every list of accounts that the roster is gathered from
pub returns : goal.returns
returns c = c.restore.ensures.starts _ (gathered _ _ _ c.gather-r.ensures)
