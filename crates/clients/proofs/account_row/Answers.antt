use Rattle.clients.proofs.Laws.{account_row_is}
use Rattle.clients.proofs.account_row.Goals as goal

pub returns : goal.returns
returns c =
    account_row_is c.args.m.now c.args.i _ _ _ _ c.requires.3 c.get-token.ensures c.get-max_open.ensures c.get-rate.ensures c.funds_at-funds.ensures
