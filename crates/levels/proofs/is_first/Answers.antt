use mathlib.Core.Path.{ap}
use native.Mathlib.Omega.{arith}
use Rattle.levels.specs.Levels.{key}
use Rattle.levels.proofs.Laws.{laws, first_is, after_is}
use Rattle.levels.proofs.is_first.Goals as goal
use Rattle.levels.proofs.is_first.Goals.{then-i-n+else-read_row-key, else-i-n}

pub returns-then-read_row-key : goal.returns-then-read_row-key
returns-then-read_row-key c = search laws

-- where there is a row i, its key is not below
pub returns-then-i-eq0 : goal.returns-then-i-eq0
returns-then-i-eq0 c =
    first_is _ c.requires _ _ (omega (arith, c.if-n-i.false, c.used-n.ensures))
    (λ l. elim c.if-i-n.branch [ then-i-n+else-read_row-key w ↦ omega (arith, w.if-read_row-key.false, ap key w.read_row.ensures) | else-i-n w ↦ omega (arith, w.if-i-n.false, c.used-n.ensures) ])
    c.if-i-eq0.true

pub returns : goal.returns
returns c =
    after_is _ c.requires _ _ (omega (arith, c.if-n-i.false, c.used-n.ensures))
    (λ l. elim c.if-i-n.branch [ then-i-n+else-read_row-key w ↦ omega (arith, w.if-read_row-key.false, ap key w.read_row.ensures) | else-i-n w ↦ omega (arith, w.if-i-n.false, c.used-n.ensures) ])
    _ c.if-i-eq0.false c.read_row-2.ensures
