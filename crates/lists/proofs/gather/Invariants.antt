use mathlib.Core.Path.{◌≡◌}
use Rattle.store.specs.View.{listed}
use Rattle.roster.specs.Rostered.{nobody, entered}
use Rattle.script.specs.Records.{account_rows, account_at}
use Rattle.lists.proofs.gather.Given as goal

abbrev pub invariant-loop-j : goal.invariant-loop-j
invariant-loop-j l = (l.n ≡ account_rows l.accounts) × (l.r ≡ entered l.limit nobody (listed (account_at l.accounts) l.j))
