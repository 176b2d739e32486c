use Rattle.le.proofs.Checked.{place}
use mathlib.Core.Path.{sym, ◌∙◌}
use Rattle.le.proofs.load.Goals as goal

pub get-requires : goal.get-requires
get-requires c = place _ _ _ (sym c.is_inside.ensures ∙ c.if-not-is_inside.false)

pub returns-then-not-is_inside : goal.returns-then-not-is_inside
returns-then-not-is_inside c = rw (← c.is_inside.ensures, c.if-not-is_inside.true)

pub returns : goal.returns
returns c = rw (← c.is_inside.ensures, c.if-not-is_inside.false, c.get.ensures)
