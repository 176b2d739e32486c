use mathlib.Core.Path.{◌≡◌}
use Rattle.saved.specs.Contents.{saved_of}
use Rattle.restore.proofs.Verdicts.{Passed}
use Rattle.restore.proofs.judge_orders.Given as goal

abbrev pub invariant-loop-j : goal.invariant-loop-j
invariant-loop-j l = (e : l.last ≡ (saved_of l.bytes).last) × Passed l.limit l.bytes l.last e l.j
