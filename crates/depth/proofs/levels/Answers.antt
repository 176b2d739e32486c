use native.Mathlib.Omega.{arith}
use Rattle.sound.proofs.Listed.{side_table}
use Rattle.depth.proofs.Laws.{laws, side_few}
use Rattle.depth.proofs.levels.Goals as goal

pub returns-then-out-n : goal.returns-then-out-n
returns-then-out-n c = search laws

pub listed-rows-requires : goal.listed-rows-requires
listed-rows-requires c = side_table c.requires.state

pub put_levels-requires : goal.put_levels-requires
put_levels-requires c =
    (omega (arith, c.size-n.ensures, side_few c.requires.state c.args.side), omega (arith, c.if-out-n.false))

pub returns : goal.returns
returns c = search laws
