use mathlib.Core.Path.{refl, ap, ◌∙◌}
use Prim.Native.Nat.{◌-◌}
use native.Mathlib.Omega.{arith}
use lib.ListN.{length}
use Rattle.le.proofs.Laws.{length_put}
use Rattle.rows.proofs.Laws.{row_none, row_step, row_all}
use Rattle.rows.proofs.put.Goals as goal

pub loop-j-init : goal.loop-j-init
loop-j-init c =
    row_none c.args.out.now c.args.o c.args.row.now

pub loop-j-preserved : goal.loop-j-preserved
loop-j-preserved c =
    let e = c.put_u64.ensures in row_step c.args.out.now c.args.o c.args.row.now c.loop-j.j c.loop-j.out _ (omega arith) c.loop-j.invariant e

pub returns : goal.returns
returns c =
    row_all c.args.out.now c.args.o c.args.row.now c.loop-j.j c.loop-j.out (omega arith) c.loop-j.invariant
