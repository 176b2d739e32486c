use Rattle.gateway.specs.Bytes.{order_widths, flags_ok}
use Rattle.saved.proofs.Rising.{Passed}
use Rattle.saved.proofs.checks.rows_fit.Given as goal

abbrev pub invariant-loop-j : goal.invariant-loop-j
invariant-loop-j l = Passed flags_ok order_widths l.xs l.o l.n l.j
