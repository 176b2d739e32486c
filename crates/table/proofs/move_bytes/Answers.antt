use mathlib.Core.Path.{◌≡◌}
use Prim.Native.Nat.{◌+◌, ◌-◌}
use Rattle.table.proofs.Moves.{moved_within}
use native.Mathlib.Omega.{arith}
use Rattle.table.proofs.move_bytes.Goals as goal

pub returns : goal.returns
returns c =
    let e : c.args.from + c.args.len - c.args.from ≡ c.args.len = omega arith in
    moved_within c.args.m.now _ c.args.from c.args.to c.args.len c.copy_within.ensures.len (rw e at c.copy_within.ensures.by_index)
