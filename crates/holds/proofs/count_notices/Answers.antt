use mathlib.Core.Path.{◌∙◌}
use Rattle.holds.proofs.Weighing.{weighing}
use Rattle.holds.proofs.count_notices.Goals as goal
use Rattle.holds.proofs.count_notices.Goals.{then-old-new, else-old-new}

pub returns-then-funded : goal.returns-then-funded
returns-then-funded c = elim c.if-old-new.branch [ then-old-new w ↦ w.notices-is ∙ search weighing | else-old-new w ↦ w.notices-is ∙ search weighing ]
