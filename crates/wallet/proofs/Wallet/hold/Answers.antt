use Rattle.wallet.specs.Wallet as W
use Rattle.wallet.proofs.Laws.{holds}
use Rattle.wallet.proofs.Wallet.hold.Goals as goal

pub returns : goal.returns
returns c =
    holds c.args.side (W.balance_of c.args.self) c.args.old c.args.new c.held_on.result c.total.result c.in_ok-total.total (W.balance_of c.with_held.result) c.held_on.ensures c.total.ensures c.in_ok-total.was c.with_held.ensures
