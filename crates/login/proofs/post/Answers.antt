use Rattle.login.proofs.Entered.{laws, balance_fits, orders_fit}
use native.Mathlib.Omega.{arith}
use Rattle.store.specs.Layout.{cell}
use Rattle.store.specs.View.{gateway}
use Rattle.login.proofs.post.Goals as goal

pub post_balance-n-requires : goal.post_balance-n-requires
post_balance-n-requires c =
    (c.requires.0, c.requires.1, omega (arith, balance_fits c.args.s c.args.a (gateway (cell c.args.m.now)) _ c.requires.2))

pub post-requires : goal.post-requires
post-requires c =
    (c.requires.0.state, omega (arith, orders_fit c.args.s c.args.a (gateway (cell c.args.m.now)) c.post_balance-n.result _ c.post_balance-n.ensures.next_is c.requires.2))

pub returns : goal.returns
returns c = search laws
