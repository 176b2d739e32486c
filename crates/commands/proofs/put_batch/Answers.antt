use native.Mathlib.Omega.{arith}
use Rattle.commands.proofs.Batches.{rows_none, rows_more, rows_all}
use Rattle.commands.proofs.put_batch.Goals as goal

pub loop-j-init : goal.loop-j-init
loop-j-init c =
    rows_none c.args.m.now c.args.out.now

pub loop-j-preserved : goal.loop-j-preserved
loop-j-preserved c =
    let h = c.loop-j-test.true in
    let e = c.requires.1 in
    rows_more c.args.m.now c.args.out.now c.loop-j.j (omega arith) c.loop-j.out _ c.loop-j.invariant c.put_command.ensures

pub returns : goal.returns
returns c =
    let h = c.loop-j-test.false in
    let e = c.requires.1 in
    rows_all c.args.m.now c.args.out.now c.loop-j.j c.loop-j.out (omega arith) c.loop-j.invariant
