use native.Mathlib.Omega.{arith}
use Rattle.depth.proofs.Laws.{none_put, one_put, all_put}
use borrow.Author.Rules.{rules}
use Rattle.depth.proofs.put_levels.Goals as goal

pub loop-i-init : goal.loop-i-init
loop-i-init c =
    none_put c.args.row c.args.out.now

pub offset_bounds-row-i : goal.offset_bounds-row-i
offset_bounds-row-i c = omega (arith, c.loop-i-test.true, c.requires.0)

pub bounds-row-i : goal.bounds-row-i
bounds-row-i c = omega (arith, c.loop-i-test.true, c.requires.0)

pub put_level-requires : goal.put_level-requires
put_level-requires c =
    omega (arith, c.loop-i-test.true, c.requires.1, c.loop-i.invariant.long)

pub loop-i-preserved : goal.loop-i-preserved
loop-i-preserved c =
    one_put c.args.row c.loop-i.i c.args.out.now c.loop-i.out _ (omega (arith, c.loop-i-test.true, c.requires.0, c.well_formed.0.1.0.1)) c.loop-i.invariant c.put_level.ensures (search rules)

pub shape_of-out : goal.shape_of-out
shape_of-out c = c.loop-i.invariant.long

pub returns : goal.returns
returns c =
    all_put c.args.row c.args.n c.loop-i.i c.args.out.now c.loop-i.out c.loop-i.auto.i-end c.loop-i-test.false c.loop-i.invariant
