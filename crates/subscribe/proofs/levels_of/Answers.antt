use native.Mathlib.Omega.{arith}
use Rattle.orderbook.specs.declared.Side.TheVariants.{Buy, Sell}
use Rattle.depth.proofs.Laws.{side_few}
use Rattle.subscribe.proofs.Snapshot.{snapshots}
use Rattle.subscribe.proofs.levels_of.Goals as goal

pub overflow_add-result : goal.overflow_add-result
overflow_add-result c = let p = c.requires in omega (arith, side_few p Buy, side_few p Sell, c.size-2.ensures, c.size.ensures)

pub returns : goal.returns
returns c = search snapshots
