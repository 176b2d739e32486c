use mathlib.Core.Path.{ap, sym}
use Rattle.words.specs.Words.{placed, fit_in}
use Rattle.words.proofs.amount_at.Goals as goal

pub returns-in-In : goal.returns-in-In
returns-in-In c = ap fit_in (ap placed (sym c.in-In.is))
