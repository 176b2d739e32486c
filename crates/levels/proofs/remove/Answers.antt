use mathlib.Core.Path.{sym, ap}
use native.Mathlib.Omega.{arith}
use Rattle.levels.specs.declared.Row.{Row}
use Rattle.levels.proofs.Laws.{remove_in}
use Rattle.levels.proofs.Laws.{laws}
use Rattle.levels.proofs.remove.Goals as goal

pub read_row-r-requires : goal.read_row-r-requires
read_row-r-requires c =
    let h = remove_in _ c.requires.0 _ _ _ c.seek_at-i.ensures c.requires.1 in
    (c.requires.0.holds, omega (arith, h.0, c.requires.0.few))

pub take_out-requires : goal.take_out-requires
take_out-requires c =
    let h = remove_in _ c.requires.0 _ _ _ c.seek_at-i.ensures c.requires.1 in
    (c.requires.0, h.0, h.2, sym h.1)

pub returns-then-r-eq1 : goal.returns-then-r-eq1
returns-then-r-eq1 c = search laws

pub overflow_sub-r : goal.overflow_sub-r
overflow_sub-r c =
    omega (arith, ap (λ (x : Row). x.qty) c.read_row-r.ensures, (remove_in _ c.requires.0 _ _ _ c.seek_at-i.ensures c.requires.1).3.0)

pub overflow_sub-r-2 : goal.overflow_sub-r-2
overflow_sub-r-2 c =
    omega (arith, ap (λ (x : Row). x.orders) c.read_row-r.ensures, (remove_in _ c.requires.0 _ _ _ c.seek_at-i.ensures c.requires.1).3.1)

pub write_row-requires : goal.write_row-requires
write_row-requires c =
    let h = remove_in _ c.requires.0 _ _ _ c.seek_at-i.ensures c.requires.1 in
    (c.requires.0.holds, omega (arith, h.0, c.requires.0.few))

pub returns : goal.returns
returns c = search laws
