use Prim.Native.Nat.{◌-◌}
use native.Mathlib.Omega.{arith}
use Rattle.table.proofs.Search.{row_in, at_first, past_last, in_doubt}
use Rattle.table.proofs.bound_by.Goals as goal

pub key_at-first-requires : goal.key_at-first-requires
key_at-first-requires c = omega (arith, row_in c.requires.0.room 0 (omega arith), c.requires.0.room.wide)

pub returns-then-key-first : goal.returns-then-key-first
returns-then-key-first c =
    at_first c.requires.0.asc c.args.key (omega (arith, c.key_at-first.ensures, c.if-key-first.true))

pub key_at-last-requires : goal.key_at-last-requires
key_at-last-requires c = omega (arith, row_in c.requires.0.room (c.args.n - 1) (omega arith), c.requires.0.room.wide)

pub returns-then-last-key : goal.returns-then-last-key
returns-then-last-key c =
    past_last c.requires.0.asc c.args.key (omega arith) (omega (arith, c.key_at-last.ensures, c.if-last-key.true))

pub overflow_sub-to : goal.overflow_sub-to
overflow_sub-to c =
    (in_doubt c.requires.0.asc c.args.key _ _ (omega arith) (omega (arith, c.key_at-first.ensures)) (omega (arith, c.key_at-last.ensures)) (rw c.key_at-last.ensures at c.lesser.ensures) (rw c.key_at-first.ensures at c.lesser-to.ensures)).0

pub bound_in-requires : goal.bound_in-requires
bound_in-requires c =
    (c.requires.0, (in_doubt c.requires.0.asc c.args.key _ _ (omega arith) (omega (arith, c.key_at-first.ensures)) (omega (arith, c.key_at-last.ensures)) (rw c.key_at-last.ensures at c.lesser.ensures) (rw c.key_at-first.ensures at c.lesser-to.ensures)).1, omega arith, omega arith)
