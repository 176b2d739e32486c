use mathlib.Core.Path.{◌≡◌}
use Rattle.listing.specs.Rows.{rows}
use Rattle.script.specs.Strict.{all_fit}
use Rattle.lists.specs.Lists.{entry_fits_at}
use Rattle.lists.proofs.entries_fit.Given as goal

abbrev pub invariant-loop-j : goal.invariant-loop-j
invariant-loop-j l = all_fit (entry_fits_at l.list) (rows l.list) ≡ all_fit (entry_fits_at l.list) l.j
