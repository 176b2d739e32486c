use mathlib.Core.Path.{◌≡◌}
use mathlib.Core.Bool.{true}
use Rattle.words.specs.Words.{int}
use Rattle.totals.specs.Totals.{orders_in, wallets_fit}
use Rattle.totals.proofs.all_fit.Given as goal

-- the wallets numbered from i on fit
abbrev pub invariant-loop-i : goal.invariant-loop-i
invariant-loop-i l = wallets_fit (int l.fee) l.accounts l.i (orders_in l.from l.list) ≡ true
