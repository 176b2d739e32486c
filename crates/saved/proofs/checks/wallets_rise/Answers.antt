use mathlib.Core.Bool.{true}
use Rattle.gateway.specs.Bytes.{wallet_widths}
use Rattle.saved.specs.Parts.{wallets_start}
use Rattle.saved.proofs.Rising.{passed_first, passed_next, passed_not, passed_last}
use Rattle.saved.proofs.checks.wallets_rise.Goals as goal

pub loop-j-init : goal.loop-j-init
loop-j-init c =
    passed_first (λ x. true) wallet_widths c.args.xs.now wallets_start c.args.n

pub returns-then-not-wallet_rises : goal.returns-then-not-wallet_rises
returns-then-not-wallet_rises c =
    passed_not (λ x. true) wallet_widths c.args.xs.now wallets_start c.args.n c.loop-j.j c.loop-j-test.true c.loop-j.invariant c.wallet_rises.result c.wallet_rises.ensures c.if-not-wallet_rises.true

pub loop-j-preserved : goal.loop-j-preserved
loop-j-preserved c =
    passed_next (λ x. true) wallet_widths c.args.xs.now wallets_start c.args.n c.loop-j.j c.loop-j-test.true c.loop-j.invariant c.wallet_rises.result c.wallet_rises.ensures c.if-not-wallet_rises.false

pub returns : goal.returns
returns c =
    passed_last (λ x. true) wallet_widths c.args.xs.now wallets_start c.args.n c.loop-j.j c.loop-j-test.false c.loop-j.invariant
