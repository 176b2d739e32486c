use mathlib.Core.Path.{ap}
use native.Mathlib.Omega.{arith}
use Rattle.levels.specs.declared.Row.{Row}
use Rattle.levels.proofs.Laws.{show_in}
use Rattle.levels.proofs.Laws.{laws}
use Rattle.levels.proofs.show.Goals as goal

pub read_row-r-requires : goal.read_row-r-requires
read_row-r-requires c =
    let h = show_in _ c.requires.0 _ _ _ _ c.seek_at-i.ensures c.requires.1 in
    (c.requires.0.holds, omega (arith, h.0, c.requires.0.few))

pub overflow_sub-r : goal.overflow_sub-r
overflow_sub-r c =
    omega (arith, ap (λ (x : Row). x.qty) c.read_row-r.ensures, (show_in _ c.requires.0 _ _ _ _ c.seek_at-i.ensures c.requires.1).3.0)

pub overflow_add-r : goal.overflow_add-r
overflow_add-r c =
    let q = ap (λ (x : Row). x.qty) c.read_row-r.ensures in
    omega (arith, (show_in _ c.requires.0 _ _ _ _ c.seek_at-i.ensures c.requires.1).3.1 (omega (arith, q)))

pub write_row-requires : goal.write_row-requires
write_row-requires c =
    let h = show_in _ c.requires.0 _ _ _ _ c.seek_at-i.ensures c.requires.1 in
    (c.requires.0.holds, omega (arith, h.0, c.requires.0.few))

pub returns : goal.returns
returns c = search laws
