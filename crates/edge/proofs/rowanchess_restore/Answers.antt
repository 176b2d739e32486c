use Rattle.edge.proofs.Begins.{begin_laws, starts_at}
use Rattle.edge.proofs.rowanchess_restore.Goals as goal

pub restore-requires : goal.restore-requires
restore-requires c = search begin_laws

pub returns-then-is_whole : goal.returns-then-is_whole
returns-then-is_whole c =
    rw c.code_of.ensures (starts_at _ _ _ _ c.are_accounts.ensures c.is_whole.ensures _ _ _ _ _ _ c.if-is_whole.true c.gather-r.ensures c.restore.ensures)

pub returns : goal.returns
returns c = search begin_laws
