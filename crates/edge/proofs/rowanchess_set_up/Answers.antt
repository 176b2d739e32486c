use Rattle.edge.proofs.Begins.{begin_laws, starts_at}
use Rattle.edge.proofs.rowanchess_set_up.Goals as goal

pub set_up-requires : goal.set_up-requires
set_up-requires c = search begin_laws

pub returns-then-is_whole : goal.returns-then-is_whole
returns-then-is_whole c =
    rw c.code_of.ensures (starts_at _ _ _ _ c.are_rows.ensures c.is_whole.ensures _ _ _ _ _ _ c.if-is_whole.true c.gather-r.ensures c.set_up.ensures)

pub returns : goal.returns
returns c = search begin_laws
