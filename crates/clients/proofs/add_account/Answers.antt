use Rattle.clients.proofs.Laws.{add_account_is}
use Rattle.clients.proofs.add_account.Goals as goal

pub returns : goal.returns
returns c =
    (add_account_is c.args.m.now c.args.a _ c.full.ensures c.set_limits.ensures c.set_funds.ensures.0 c.set_bucket.ensures, c.set_funds.ensures.1)
