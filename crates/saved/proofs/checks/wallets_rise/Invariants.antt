use mathlib.Core.Bool.{true}
use Rattle.gateway.specs.Bytes.{wallet_widths}
use Rattle.saved.specs.Parts.{wallets_start}
use Rattle.saved.proofs.Rising.{Passed}
use Rattle.saved.proofs.checks.wallets_rise.Given as goal

abbrev pub invariant-loop-j : goal.invariant-loop-j
invariant-loop-j l = Passed (λ x. true) wallet_widths l.xs wallets_start l.n l.j
