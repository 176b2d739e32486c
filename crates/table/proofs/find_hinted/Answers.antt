use Rattle.table.proofs.Search.{row_in, finds_dead}
use native.Mathlib.Omega.{arith}
use Rattle.table.proofs.find_hinted.Goals as goal

pub key_at-requires : goal.key_at-requires
key_at-requires c =
    omega (arith, row_in c.requires.0.room c.args.hint c.if-hint-n.true, c.requires.0.room.wide)

pub mark_at-requires : goal.mark_at-requires
mark_at-requires c =
    omega (arith, row_in c.requires.0.room c.args.hint c.if-hint-n.true)

pub returns-then-mark_at-eq0 : goal.returns-then-mark_at-eq0
returns-then-mark_at-eq0 c =
    finds_dead _ c.args.hint c.requires.0.asc c.if-hint-n.true (rw c.key_at.ensures at c.if-key_at-key.true) (rw c.mark_at.ensures at c.if-mark_at-eq0.true)
